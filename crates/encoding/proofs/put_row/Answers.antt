-- `encoding::put_row` meets its contract: a row copied into its place is its words stored there. Assumes nothing.
use native.Mathlib.Omega.{arith}
use Rattle.encoding.proofs.Rows.{put_stored}
use Rattle.encoding.proofs.put_row.Goals as goal

pub returns : goal.returns
returns g c =
    let put = c.copy_from_slice.ensures in
    put_stored c.args.at _ c.args.area.now c.args.row put.after put.len (omega arith)
