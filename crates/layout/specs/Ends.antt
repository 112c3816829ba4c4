-- What ends a picture in a layout. Assumes nothing.
use Rattle.std.specs.Prelude.{ℕ, Bool, eqb}
use Prim.Native.Char.{code}

abbrev pub ends : ℕ → Bool
ends b = eqb b (code ";")
