-- `tables::size_of` meets its contract. Rests on nothing.
use mathlib.Core.Path.{refl}
use Rattle.tables.specs.Layout.{size_of}
use native.Mathlib.Omega.{arith}
use Rattle.tables.proofs.size_of.Goals as goal

pub overflow_mul-result : goal.overflow_mul-result
overflow_mul-result c =
    let p = c.requires in
    omega (arith, p.records_high, p.edits_high, p.versions_high, p.locks_high, p.accesses_high)

pub overflow_add-result : goal.overflow_add-result
overflow_add-result c =
    let p = c.requires in
    omega (arith, p.records_high, p.edits_high, p.versions_high, p.locks_high, p.accesses_high)

pub overflow_mul-result-2 : goal.overflow_mul-result-2
overflow_mul-result-2 c =
    let p = c.requires in
    omega (arith, p.records_high, p.edits_high, p.versions_high, p.locks_high, p.accesses_high)

pub overflow_add-result-2 : goal.overflow_add-result-2
overflow_add-result-2 c =
    let p = c.requires in
    omega (arith, p.records_high, p.edits_high, p.versions_high, p.locks_high, p.accesses_high)

pub overflow_mul-result-3 : goal.overflow_mul-result-3
overflow_mul-result-3 c =
    let p = c.requires in
    omega (arith, p.records_high, p.edits_high, p.versions_high, p.locks_high, p.accesses_high)

pub overflow_add-result-3 : goal.overflow_add-result-3
overflow_add-result-3 c =
    let p = c.requires in
    omega (arith, p.records_high, p.edits_high, p.versions_high, p.locks_high, p.accesses_high)

pub overflow_mul-result-4 : goal.overflow_mul-result-4
overflow_mul-result-4 c =
    let p = c.requires in
    omega (arith, p.records_high, p.edits_high, p.versions_high, p.locks_high, p.accesses_high)

pub overflow_add-result-4 : goal.overflow_add-result-4
overflow_add-result-4 c =
    let p = c.requires in
    omega (arith, p.records_high, p.edits_high, p.versions_high, p.locks_high, p.accesses_high)

pub overflow_mul-result-5 : goal.overflow_mul-result-5
overflow_mul-result-5 c =
    let p = c.requires in
    omega (arith, p.records_high, p.edits_high, p.versions_high, p.locks_high, p.accesses_high)

pub overflow_add-result-5 : goal.overflow_add-result-5
overflow_add-result-5 c =
    let p = c.requires in
    omega (arith, p.records_high, p.edits_high, p.versions_high, p.locks_high, p.accesses_high)

pub returns : goal.returns
unfolding size_of
returns c = refl
