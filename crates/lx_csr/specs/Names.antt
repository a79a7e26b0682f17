-- Names of registers, and those of the headers' macros and accessors.
use Rattle.std.specs.Prelude.{ℕ, Bool, false, List, [], ◌∷◌, ◌++◌, nat_eq, not, map, codes, if◌then◌else◌}
use Rattle.std.specs.Char.{to_ascii_uppercase}
use Rattle.lx_fhdl.specs.Keeping.{is_between}

-- what follows the leading underscores
abbrev pub after_underscores : List ℕ → List ℕ
after_underscores [] = []
after_underscores (b ∷ bs) = if nat_eq b 95 then after_underscores bs else b ∷ bs

-- something, and no digit first
abbrev pub can_stand : List ℕ → Bool
can_stand [] = false
can_stand (b ∷ bs) = not (is_between 48 57 b)

-- a register's name without its leading underscores, where a name is left
unfoldable pub bare : List ℕ → List ℕ
bare name = if can_stand (after_underscores name) then after_underscores name else name

-- the name of what stands in a module
abbrev pub joined : List ℕ → List ℕ → List ℕ
joined owner name = owner ++ (codes "_" ++ name)

-- the letters a to z in upper case
abbrev pub upper : List ℕ → List ℕ
upper name = map to_ascii_uppercase name

-- a macro of `csr.h`: of a bank, a register or a field
abbrev pub csr_macro : List ℕ → List ℕ → List ℕ
csr_macro name suffix = codes "CSR_" ++ (upper name ++ suffix)

-- a macro of another header
abbrev pub plain_macro : List ℕ → List ℕ → List ℕ
plain_macro name suffix = upper name ++ suffix
