use Rattle.std.proofs.Common.{ℕ, ◌<◌, sym, subst}
use Rattle.core_steps.specs.declared.sizes.TheConstants.{TABLE_WORDS}
use Rattle.ruled_words.proofs.Allowed.{asked_as, allowed, allowed_store, allowed_from_0, allowed_add, allowed_clear, allowed_set}
use Rattle.ruled_words.proofs.steps.one_step.step_as.Goals as goal

pub load-requires : goal.load-requires
load-requires g c =
    let here = c.requires in
    let asked = asked_as _ _ _ _ _ _ _ c.in-Load.is (record { left = here.left; may = here.may }) in (
      here.table.0,
      subst (λ (n : ℕ). c.args.word < n) (sym here.table.1) (subst (λ (n : ℕ). n < TABLE_WORDS) (sym here.word) (here.sound_sight.in_table _ _ _ here.next)),
      allowed _ _ _ _ _ _ _ _ _ _ _ (λ n. n) here.fixed here.passes here.word here.next (λ found small. sym (asked.left found)),
    )

pub store-requires : goal.store-requires
store-requires g c =
    let here = c.requires in
    let asked = asked_as _ _ _ _ _ _ _ c.in-Store.is (record { left = here.left; may = here.may }) in (
      here.table.0,
      subst (λ (n : ℕ). c.args.word < n) (sym here.table.1) (subst (λ (n : ℕ). n < TABLE_WORDS) (sym here.word) (here.sound_sight.in_table _ _ _ here.next)),
      allowed_store _ _ _ _ _ _ _ _ _ _ _ _ here.fixed here.passes here.word here.next asked.left asked.may,
    )

pub compare_exchange-requires : goal.compare_exchange-requires
compare_exchange-requires g c =
    let here = c.requires in
    let asked = asked_as _ _ _ _ _ _ _ c.in-Take.is (record { left = here.left; may = here.may }) in (
      here.table.0,
      subst (λ (n : ℕ). c.args.word < n) (sym here.table.1) (subst (λ (n : ℕ). n < TABLE_WORDS) (sym here.word) (here.sound_sight.in_table _ _ _ here.next)),
      allowed_from_0 _ _ _ _ _ _ _ _ _ _ _ _ here.fixed here.passes here.word here.next asked.left,
    )

pub fetch_add-requires : goal.fetch_add-requires
fetch_add-requires g c =
    let here = c.requires in
    let asked = asked_as _ _ _ _ _ _ _ c.in-Count.is (record { left = here.left; may = here.may }) in (
      here.table.0,
      subst (λ (n : ℕ). c.args.word < n) (sym here.table.1) (subst (λ (n : ℕ). n < TABLE_WORDS) (sym here.word) (here.sound_sight.in_table _ _ _ here.next)),
      allowed_add _ _ _ _ _ _ _ _ _ _ _ here.fixed here.passes here.word asked.may here.next asked.left,
    )

pub fetch_and-requires : goal.fetch_and-requires
fetch_and-requires g c =
    let here = c.requires in
    let asked = asked_as _ _ _ _ _ _ _ c.in-Clear.is (record { left = here.left; may = here.may }) in (
      here.table.0,
      subst (λ (n : ℕ). c.args.word < n) (sym here.table.1) (subst (λ (n : ℕ). n < TABLE_WORDS) (sym here.word) (here.sound_sight.in_table _ _ _ here.next)),
      allowed_clear _ _ _ _ _ _ _ _ _ _ _ c.in-Clear.slot here.fixed here.passes here.word here.next asked.may asked.left,
    )

pub fetch_or-requires : goal.fetch_or-requires
fetch_or-requires g c =
    let here = c.requires in
    let asked = asked_as _ _ _ _ _ _ _ c.in-Set.is (record { left = here.left; may = here.may }) in (
      here.table.0,
      subst (λ (n : ℕ). c.args.word < n) (sym here.table.1) (subst (λ (n : ℕ). n < TABLE_WORDS) (sym here.word) (here.sound_sight.in_table _ _ _ here.next)),
      allowed_set _ _ _ _ _ _ _ _ _ _ _ c.in-Set.slot here.fixed here.passes here.word here.next asked.may asked.left,
    )
