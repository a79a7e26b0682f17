-- What the files of a circuit without a bus tell, worked by hand.
use Rattle.std.specs.Prelude.{◌≡◌, [], ◌∷◌, codes}
use Rattle.lx_outside.specs.Calls.{pair}
use Rattle.lx_export.specs.Listing.{listing_text}
use Rattle.lx_top.specs.Files.{module_files, nowhere}

pub record AreWorked : Type 0 where
  pub files : module_files (codes "text") ≡
      pair (codes "top.v") (codes "text")
      ∷ pair (codes "csr.csv") []
      ∷ pair (codes "csr.json") (codes "{\"constants\":{},\"csr_bases\":{},\"csr_registers\":{},\"memories\":{}}\n")
      ∷ pair (codes "regions.ld") (codes "MEMORY {\n}\n")
      ∷ []
  pub listing : listing_text [] nowhere ≡ []
