-- `depot::make` meets its contract. Assumes nothing.
use Rattle.depot.proofs.Answers.{make-beyond, make-short, make-whole}
use Rattle.depot.specs.Steps.{total_of}
use borrow.Author.Rules.{rules}
use mathlib.Core.Path.{ap, ◌∙◌}
use native.Mathlib.Omega.{arith}
use Rattle.depot.proofs.make.Goals as goal

pub returns-then-not-within : goal.returns-then-not-within
returns-then-not-within c = make-beyond c.args.command c.args.payload.now c.args.number c.args.cover c.args.room.now (search rules)

pub returns-then-room-div_ceil : goal.returns-then-room-div_ceil
returns-then-room-div_ceil c = make-short c.args.command c.args.payload.now c.args.number c.args.cover c.args.room.now (search rules) c.total-n.result (c.total-n.ensures ∙ ap total_of c.lay-l.ensures) (omega (arith, c.div_ceil.ensures, c.if-room-div_ceil.true))

pub returns : goal.returns
returns c = make-whole c.args.command c.args.payload.now c.args.number c.args.cover c.args.room.now (search rules) c.total-n.result (c.total-n.ensures ∙ ap total_of c.lay-l.ensures) (omega (arith, c.div_ceil.ensures, c.if-room-div_ceil.false)) _ (rw (← c.lay-l.ensures) c.put.ensures)
