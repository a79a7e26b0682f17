-- What ties the text of a module to its reading.
use Rattle.std.specs.Prelude.{◌≡◌, ℕ, List, Some, IfSome}
use Rattle.lx_vtext.specs.Tree.{VModule}
use Rattle.lx_vtext.specs.Fits.{IsModule}
use Rattle.lx_vtext.specs.Printed.{module_text}
use Rattle.lx_vtext.specs.Reading.{module_of}

-- two modules never have the same text
abbrev pub OneText : Type 0
OneText = (m n : VModule) → IsModule m → IsModule n → module_text m ≡ module_text n → m ≡ n

-- the reading of a module's text is that module
abbrev pub ReadAgain : Type 0
ReadAgain = (m : VModule) → IsModule m → module_of (module_text m) ≡ Some m

-- bytes that read as a module are its text
abbrev pub ReadIsText : Type 0
ReadIsText = (bytes : List ℕ) → IfSome (module_of bytes) (λ m. IsModule m × (bytes ≡ module_text m))
