-- What the tests on a reading and a seat come to, one law for each return of `make_point`. Rests on nothing.
use Rattle.std.proofs.Common.{◌≡◌, ℕ, ◌+◌, ◌*◌, ◌<◌, ◌≤◌, [], le-ltb, lt-ltb}
use Rattle.types.specs.Limits.{READINGS, SEATS}
use Rattle.types.specs.Replies.{point, refusing}
use Rattle.types.specs.Numbers.{pointing}

module _ (r s : ℕ) where
  pub reading_large : READINGS ≤ r → refusing 6 [] ≡ pointing r s
  reading_large h = rw (le-ltb r READINGS h)

  pub seat_large : r < READINGS → SEATS ≤ s → refusing 6 [] ≡ pointing r s
  seat_large g h = rw (lt-ltb r READINGS g, le-ltb s SEATS h)

  pub point_made : r < READINGS → s < SEATS → point (r * SEATS + s) ≡ pointing r s
  point_made g h = rw (lt-ltb r READINGS g, lt-ltb s SEATS h)
