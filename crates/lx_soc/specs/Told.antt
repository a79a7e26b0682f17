-- What a system keeps of all that its files tell.
use Rattle.std.specs.Prelude.{◌≡◌, ℕ, Bool, true, List, ◌&&◌, nat_le, nat_lt}
use Rattle.std.specs.List.{list_all}
use Rattle.lx_fhdl.specs.Keeping.{is_later}
use Rattle.lx_fhdl.specs.declared.places.Numbered.{Numbered}
use Rattle.lx_fhdl.specs.declared.places.Placement.{Placement}
use Rattle.lx_fhdl.specs.declared.places.Region.{Region}
use Rattle.lx_description.specs.Keeping.{is_value}
use Rattle.lx_description.specs.declared.modules.ConstDecl.{ConstDecl}
use Rattle.lx_csr.specs.declared.registers.Register.{Register}

-- letters, digits and `_` alone
abbrev pub is_word : List ℕ → Bool
is_word name = list_all is_later name

abbrev pub are_registers : List Register → Bool
are_registers rs = list_all (λ (r : Register). is_word r.name) rs

-- regions begin within the 4 GiB
abbrev pub are_regions : List Region → Bool
are_regions rs = list_all (λ (r : Region). is_word r.name && nat_lt r.origin 4294967296) rs

-- numbers are at most 31
abbrev pub are_numbered : List Numbered → Bool
are_numbered xs = list_all (λ (x : Numbered). is_word x.name && nat_le x.number 31) xs

-- the values are such as a description's are
abbrev pub are_constants : List ConstDecl → Bool
are_constants cs = list_all (λ (c : ConstDecl). is_word c.name && is_value c.value) cs

-- what a system keeps of these registers, this placement and these constants
pub record AreTold (rs : List Register) (p : Placement) (cs : List ConstDecl) : Type 0 where
  pub registers : are_registers rs ≡ true
  pub regions : are_regions p.regions ≡ true
  pub banks : are_numbered p.banks ≡ true
  pub interrupts : are_numbered p.irqs ≡ true
  pub numbers : are_constants cs ≡ true
