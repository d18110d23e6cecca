-- Settled reads of one record joined, computed: two rows that lie apart are taken in by a third at once, Purge shortens
-- the row that they make, and the old table has two rows more to purge. Rests on Calls.
use Rattle.std.specs.Prelude.{ℕ, ◌≡◌, List, [], ◌∷◌, ◌++◌, Some}
use Rattle.types.specs.Limits.{READ, WRITE}
use Rattle.types.specs.Replies.{Reply, ok, edit, locked, read, commit, purged}
use Rattle.types.specs.declared.Counts.{Counts}
use Rattle.types.specs.declared.Handle.{Handle}
use Rattle.types.specs.declared.Point.{Point}
use Rattle.types.specs.declared.Extent.TheVariants.{All}
use Rattle.types.specs.declared.Pick.TheVariants.{Earliest, Latest}
use Rattle.types.specs.declared.Finish.TheVariants.{Settle, Keep}
use Rattle.types.specs.declared.Call.{Call}
use Rattle.types.specs.declared.Call.TheVariants as C
use Rattle.meaning.specs.Store.{Store, Lock, rec_at, fresh}
use Rattle.meaning.specs.Points.{plain, settled_lock}
use Rattle.meaning.specs.Calls.{run_by, run, after_by, after}

abbrev on : ℕ → Handle
on h = record { 0 = h }

abbrev to : ℕ → Point
to p = record { 0 = p }

abbrev pub join_counts : Counts
join_counts = record { records = 1; edits = 3; versions = 4; locks = 8; accesses = 8 }

-- value 1 at 3; edit 129 reads it up to 6, writes 2 at 7 and keeps its locks; 66 reads 1 up to 5, 67 reads 2 up to 9,
-- and both settle before 129 does
unfoldable pub join_calls : List Call
join_calls =
    C.Begin
    ∷ C.Lock (on 65) 0 (to 3) (to 3) All
    ∷ C.Write (on 65) 0 1
    ∷ C.Commit (on 65) Earliest Settle
    ∷ C.Begin
    ∷ C.Begin
    ∷ C.Begin
    ∷ C.Read (on 129) 0 (to 6) All
    ∷ C.Lock (on 129) 0 (to 7) (to 7) All
    ∷ C.Write (on 129) 0 2
    ∷ C.Read (on 66) 0 (to 5) All
    ∷ C.Commit (on 66) Latest Settle
    ∷ C.Commit (on 129) Latest Keep
    ∷ C.Read (on 67) 0 (to 9) All
    ∷ C.Commit (on 67) Latest Settle
    ∷ C.Settle (on 129)
    ∷ []

unfoldable pub join_replies : List Reply
join_replies =
    edit 65
    ∷ locked 3 3
    ∷ ok
    ∷ commit 3
    ∷ edit 129
    ∷ edit 66
    ∷ edit 67
    ∷ read 3 6 (Some 1)
    ∷ locked 7 7
    ∷ ok
    ∷ read 3 5 (Some 1)
    ∷ commit 5
    ∷ commit 7
    ∷ read 7 9 (Some 2)
    ∷ commit 9
    ∷ ok
    ∷ []

abbrev purge : List Call
purge = C.Purge 0 (to 9) ∷ []

abbrev pub locks_of0 : Store → List Lock
locks_of0 s = (rec_at s 0).locks

pub record JoinedRows : Type 0 where
  pub replies : run (join_calls ++ purge) (fresh join_counts) ≡ join_replies ++ purged 1 2 ∷ []
  pub rows : locks_of0 (after join_calls (fresh join_counts))
      ≡ settled_lock WRITE 3 3 ∷ settled_lock READ 4 9 ∷ settled_lock WRITE 7 7 ∷ []
  pub shortened : locks_of0 (after (join_calls ++ purge) (fresh join_counts)) ≡ settled_lock READ 8 9 ∷ []
  pub old_replies : run_by plain (join_calls ++ purge) (fresh join_counts) ≡ join_replies ++ purged 1 4 ∷ []
  pub old_rows : locks_of0 (after_by plain join_calls (fresh join_counts))
      ≡ settled_lock WRITE 7 7 ∷ settled_lock READ 4 7 ∷ settled_lock READ 8 9 ∷ settled_lock READ 4 5
      ∷ settled_lock WRITE 3 3 ∷ []
