-- What is known of a circuit with nothing beside.
use Rattle.std.proofs.Common.{◌≡◌, true, ◌&&◌, not, List, [], ◌∷◌, refl}
use Rattle.std.specs.List.{list_all}
use Rattle.std.proofs.lemmas.Bool.{and_parts}
use Rattle.lx_fhdl.specs.declared.design.Signal.{Signal}
use Rattle.lx_description.specs.Instance.{and_design, system}
use Rattle.lx_description.specs.PlainModule.{ArePlain, is_nothing, is_plain}
use Rattle.lx_description.specs.declared.description.Description.{Description}

nothing_is : {T : Type 0} (xs : List T) → is_nothing xs ≡ true → xs ≡ []
nothing_is [] h = refl
nothing_is (x ∷ xs) h = absurd (cc)

-- it has no memories and no ports of memories
pub record IsMemoryless (d : Description) : Type 0 where
  pub memories : d.design.memories ≡ []
  pub ports : d.design.ports ≡ []

pub plain_is : (d : Description) → is_plain d ≡ true → IsMemoryless d
plain_is d h =
    let p = and_parts (not d.soc && (is_nothing d.fsms && is_nothing d.slaves)) ((is_nothing d.design.memories && is_nothing d.design.ports) && list_all (λ (s : Signal). not (is_nothing s.path)) d.design.signals) h in
    let q = and_parts (is_nothing d.design.memories && is_nothing d.design.ports) (list_all (λ (s : Signal). not (is_nothing s.path)) d.design.signals) p.1 in
    let r = and_parts (is_nothing d.design.memories) (is_nothing d.design.ports) q.0 in
    record { memories = nothing_is d.design.memories r.0; ports = nothing_is d.design.ports r.1 }

pub plain_rows : ArePlain
unfolding and_design system
plain_rows = record { circuit = refl; system = refl; slave = refl; no_path = refl }
