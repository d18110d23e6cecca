-- The laws that the functions of this crate rest on. Rests on the definitions in specs/ alone.
mod Making
