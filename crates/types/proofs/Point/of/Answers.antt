-- `Point::of` meets its contract: the tests passed at each return say which case of `pointing` holds. Assumes nothing.
use Rattle.std.proofs.Common.{arith}
use Rattle.types.proofs.Making.{reading_large, seat_large, point_made}
use Rattle.types.proofs.Point.of.Goals as goal

pub returns-then-r-ge-READINGS : goal.returns-then-r-ge-READINGS
returns-then-r-ge-READINGS c = reading_large c.args.reading.0 c.args.seat.0 (omega (arith, c.if-r-ge-READINGS.true))

pub returns-then-s-ge-SEATS : goal.returns-then-s-ge-SEATS
returns-then-s-ge-SEATS c =
    seat_large c.args.reading.0 c.args.seat.0
    (omega (arith, c.if-r-ge-READINGS.false)) (omega (arith, c.if-s-ge-SEATS.true))

pub returns : goal.returns
returns c =
    point_made c.args.reading.0 c.args.seat.0
    (omega (arith, c.if-r-ge-READINGS.false)) (omega (arith, c.if-s-ge-SEATS.false))
