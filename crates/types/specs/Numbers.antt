-- Points and handles as numbers. Rests on Limits and Replies.
use Rattle.std.specs.Prelude.{ℕ, ◌+◌, ◌*◌, ◌/◌, ◌%◌, cond, ◌&&◌, [], nat_lt}
use Rattle.types.specs.Limits.{READINGS, SEATS, SLOTS, GENERATIONS}
use Rattle.types.specs.Replies.{Reply, point, refusing}

-- "Point makes a point of a reading and a seat; it needs no store." 6: "reading, seat ... too large"
abbrev pub pointing : ℕ → ℕ → Reply
pointing reading seat = cond (nat_lt reading READINGS && nat_lt seat SEATS) (point (reading * SEATS + seat))
    (refusing 6 [])

-- "An edit's handle is generation × 64 + slot"
abbrev pub handle : ℕ → ℕ → ℕ
handle generation slot = generation * SLOTS + slot

-- the slot of a handle
abbrev pub slot_of : ℕ → ℕ
slot_of h = h % SLOTS

-- the generation of a handle; a handle above 65,535 × 64 + 63 has one that no slot has
abbrev pub generation_of : ℕ → ℕ
generation_of h = h / SLOTS

-- "raises its generation by one, and after 65,535 comes 0"
abbrev pub next_generation : ℕ → ℕ
next_generation g = (g + 1) % GENERATIONS
