-- `gathering::gather` meets its contract.
-- Assumes nothing.
use mathlib.Core.Path.{refl}
use lib.ListN.{length-set}
use Rattle.gathering.proofs.Taken.{full, added}
use borrow.Author.Rules.{rules}
use native.Mathlib.Omega.{arith}
use Rattle.gathering.proofs.gather.Goals as goal

pub returns-then-line-held : goal.returns-then-line-held
returns-then-line-held c = (
  search rules,
  full _ c.args.line.now c.args.held c.args.b refl c.requires
      (omega (arith, c.if-line-held.true)),
)

pub returns : goal.returns
returns c = (
  omega (arith, length-set c.args.line.now c.args.held c.args.b),
  added _ c.args.line.now c.args.held c.args.b refl (omega (arith, c.if-line-held.false)),
)
