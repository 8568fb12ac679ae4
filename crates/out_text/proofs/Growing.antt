-- Frames that are closed stay closed, whatever events come.
use Rattle.std.proofs.Common.{◌≡◌, ◌≤◌, List, [], ◌∷◌, ◌++◌, length, take, refl, sym, ap, ◌∙◌, subst, append_assoc, append-nil, arith, length-append}
use lib.Seq.{take-append_seam}
use Rattle.packet_read.specs.declared.arrival.Arrival.{Arrival}
use Rattle.demo_lines.specs.declared.event.Event.{Event}
use Rattle.demo_lines.specs.declared.event.Event.TheVariants.{Frame, From, End}
use Rattle.demo_lines.specs.Machines.{run_of}
use Rattle.demo_lines.proofs.Machines.{run_of-append}
use Rattle.out_text.specs.Collecting.{Frames, collect, closed_frames, frames_of_events, no_frames}

-- these frames are the first of all
pub record GoesOnWith (closed all : List (List Arrival)) : Type 0 where
  pub rest : List (List Arrival)
  pub is : all ≡ closed ++ rest

collect_more : (f : Frames) (e : Event) → GoesOnWith f.closed (collect f e).closed
collect_more f Frame = record { rest = closed_frames f.opened; is = refl }
collect_more f (From a) = record { rest = []; is = sym (append-nil f.closed) }
collect_more f End = record { rest = closed_frames f.opened; is = refl }

goes_on_trans : (a b c : List (List Arrival)) → GoesOnWith a b → GoesOnWith b c → GoesOnWith a c
goes_on_trans a b c one more = record {
  rest = one.rest ++ more.rest;
  is = more.is ∙ ap (λ l. l ++ more.rest) one.is ∙ append_assoc a one.rest more.rest;
}

pub collects_more : (f : Frames) (es : List Event) → GoesOnWith f.closed (run_of collect f es).closed
collects_more f [] = record { rest = []; is = sym (append-nil f.closed) }
collects_more f (e ∷ es) = goes_on_trans f.closed (collect f e).closed (run_of collect f (e ∷ es)).closed (collect_more f e) (collects_more (collect f e) es)

-- the frames of more events
pub collected-append : (es more : List Event) → frames_of_events (es ++ more) ≡ run_of collect (frames_of_events es) more
collected-append es more = run_of-append {E = Event} collect (λ _ _. []) no_frames es more

-- the frames of the first events are the first of all
pub goes_on_collected : (es more : List Event) → GoesOnWith (frames_of_events es).closed (frames_of_events (es ++ more)).closed
goes_on_collected es more =
    let P : Frames → Type 0 = λ f. GoesOnWith (frames_of_events es).closed f.closed in
    subst P (sym (collected-append es more)) (collects_more (frames_of_events es) more)

-- all frames are the first of all
pub goes_on_all : (closed all : List (List Arrival)) → all ≡ closed → GoesOnWith closed all
goes_on_all closed all is = record { rest = []; is = is ∙ sym (append-nil closed) }

pub take-goes_on : (closed all : List (List Arrival)) → GoesOnWith closed all → take (length closed) all ≡ closed
take-goes_on closed all on = ap (take (length closed)) on.is ∙ take-append_seam closed on.rest

pub length-goes_on : (closed all : List (List Arrival)) → GoesOnWith closed all → length closed ≤ length all
length-goes_on closed all on = omega (arith, ap length on.is, length-append closed on.rest)
