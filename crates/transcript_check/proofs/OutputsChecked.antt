-- Right transcripts are the outputs of their recordings.
use Rattle.std.proofs.Common.{[], ◌∷◌, ◌++◌, length, Option, refl, ap, ◌∙◌, subst}
use Rattle.arena_map.specs.Maps.{MapView}
use Rattle.out_text.specs.OutLines.{EndLine, text_of}
use Rattle.out_text.specs.Journals.{dids}
use Rattle.out_text.specs.Collecting.{frames_of}
use Rattle.out_text.specs.Output.{lines_in, AreRightIn}
use Rattle.out_text.specs.Transcripts.{BeginsWith}
use Rattle.out_text.proofs.KeptRules.{map_keeps_rules}
use Rattle.out_text.proofs.Fronts.{whole_text, is_output}
use Rattle.transcript_check.specs.Laws.{VerdictsExclude, OutputsAreRight, RightOnesAreOutputs}

pub exclude : VerdictsExclude
exclude map frames rest count moves before line right wrong = wrong.wrong.not_all right.transcript

pub outputs_right : OutputsAreRight
outputs_right workers recording map rest has given =
    let js = dids given.text in
    let frames = frames_of recording in
    record {
      journals = js;
      right = subst (λ (m : Option MapView). AreRightIn m frames js) has given.output.right;
      begins = subst (BeginsWith rest) (given.output.spelled ∙ ap (λ (m : Option MapView). text_of (lines_in m frames js ++ EndLine (length frames) ∷ [])) has) given.begins;
    }

pub right_outputs : RightOnesAreOutputs
right_outputs workers recording map rest several accepted has t =
    let frames = frames_of recording in
    record {
      text = whole_text map frames t.journals;
      output = is_output workers recording map (record { has = has; is_map = map_keeps_rules recording map has }) frames t.journals accepted refl
          (record { right = t.right; order = λ one. absurd (several one) });
      begins = t.begins;
    }
