-- `states::inventory::selects` meets its contract: within the bank, then bit by bit. Assumes nothing.
use mathlib.Core.Path.{sym, ◌∙◌}
use mathlib.Core.Bool.{true≢false}
use borrow.Author.Tests.{lt-ltb, le-ltb}
use Rattle.states.specs.Inventory.{selects}
use Rattle.states.proofs.inventory.selects.Goals.{then-first-bits, else-first-bits}
use Rattle.states.proofs.inventory.selects.Goals as goal

pub returns-then-first-count : goal.returns-then-first-count
unfolding selects
returns-then-first-count c =
    elim c.if-first-bits.branch [
      | then-first-bits w ↦ rw c.alike.ensures (simp (← c.bank_in-bank.ensures, lt-ltb _ _ w.if-first-bits.true, sym w.value-is ∙ c.if-first-count.true))
      | else-first-bits w ↦ absurd (true≢false (sym c.if-first-count.true ∙ w.value-is ∙ le-ltb _ _ w.if-first-bits.false))
    ]

pub returns-else-first-count : goal.returns-else-first-count
unfolding selects
returns-else-first-count c =
    elim c.if-first-bits.branch [
      | then-first-bits w ↦ rw c.if-first-count.false (simp (← c.bank_in-bank.ensures, lt-ltb _ _ w.if-first-bits.true, sym w.value-is ∙ c.if-first-count.false))
      | else-first-bits w ↦ rw c.if-first-count.false (simp (← c.bank_in-bank.ensures, le-ltb _ _ w.if-first-bits.false))
    ]
