-- `Output::line` meets its contract: what is put is the line with its newline, and there is room for it. Rests on
-- Collecting.
use native.Mathlib.Omega.{arith}
use lib.ListN.{length, take}
use Rattle.std.proofs.Common.{refl, ap, ◌∙◌}
use Rattle.script.proofs.Collecting.{collects}
use Rattle.script.proofs.output.Output.line.Goals as goal

pub returns : goal.returns
returns g c =
    let p = c.print-n.ensures in
    collects _ c.args.self.now c.self.inside.ready (take c.print-n.result c.print-n.new.out) c.append.new.self
    c.gather.new.self c.args.l (c.self.view_is ∙ c.in_ok-make_room.ensures) p.line
    (omega (arith, ap length p.line, p.ends, p.fits, c.print-n.array_long)) c.append.ensures c.gather.ensures refl
