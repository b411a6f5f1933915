-- `depot::read` meets its contract. Assumes nothing.
use Rattle.depot.proofs.Answers.{read-beyond, read_short, read_past, read_told}
use borrow.Author.Rules.{rules}
use native.Mathlib.Omega.{arith}
use Rattle.depot.proofs.read.Goals as goal
use Rattle.depot.proofs.read.Goals.{then-n-lt16-via-then-n-lt16, then-n-lt16-via-else-n-lt16+then-bytes-div_ceil}

pub returns-then-not-within : goal.returns-then-not-within
returns-then-not-within c = read-beyond c.args.command c.args.payload.now c.args.number c.args.n c.args.bytes.now (search rules)

pub returns-then-n-lt16 : goal.returns-then-n-lt16
returns-then-n-lt16 c = elim c.then-n-lt16.branch [
  | then-n-lt16-via-then-n-lt16 w ↦ read_short c.args.command c.args.payload.now c.args.number c.args.n c.args.bytes.now (search rules) w.if-n-lt16.true
  | then-n-lt16-via-else-n-lt16+then-bytes-div_ceil w ↦ read_past c.args.command c.args.payload.now c.args.number c.args.n c.args.bytes.now (search rules) (omega (arith, w.div_ceil.ensures, w.if-bytes-div_ceil.true))
]

pub returns : goal.returns
returns c = rw (c.told.ensures, c.kind_of.ensures) (read_told c.args.command c.args.payload.now c.args.number c.args.n c.args.bytes.now (search rules) (omega arith) (omega arith))
