-- The module that a description's bytes describe.
use Rattle.std.proofs.Common.{◌≡◌, ℕ, false, List, Result, Ok, Err, refl, inl, inr}
use Rattle.lx_text.specs.declared.faults.Fault.{Fault}
use Rattle.lx_text.specs.declared.faults.Refusal.{Refusal}
use Rattle.lx_text.specs.declared.faults.Refusal.TheVariants as refusal
use Rattle.lx_pytree.specs.declared.tree.Tree.{Tree}
use Rattle.lx_pytree.specs.Reading.{tree_of}
use Rattle.lx_syntax.specs.Classes.{classes}
use Rattle.lx_fhdl.specs.Keeping.{Keeps}
use Rattle.lx_description.specs.declared.description.Description.{Description}
use Rattle.lx_fsm.specs.Flattened.{IsWithout}
use Rattle.lx_describe.specs.Answers.{Answers}
use Rattle.lx_elab.specs.Elaboration.{elaborated}
use Rattle.lx_translate.specs.Translation.{HasFault, IsFaultless}
use Rattle.lx_command.specs.Judging as text
use Rattle.lx_command.specs.Judging.{IsTreeOfText}
use Rattle.lx_command.specs.Lines.{not_built}
use Rattle.lx_top.specs.Meaning.{Meaning, Says}
use Rattle.lx_top.specs.Making.{Flattened, IsModuleOf, Judges, Modules, Reads}
use Rattle.lx_top.specs.Modules.{is_module}
use Rattle.lx_top.proofs.Flat.{flat_keeps}
use Rattle.lx_top.proofs.Systems.{module_refused, plain_top}

-- ---- of a description

pub no_module : (d e : Description) → is_module e ≡ false → IsWithout d e → Modules d (Err (refusal.Fault not_built))
no_module d e other w = (e, w, inl (other, refl))

pub not_flat : (d : Description) (r : Refusal) → Flattened d (Err r) → Modules d (Err r)
not_flat d (refusal.Fault f) h = absurd h
not_flat d refusal.NoMemory h = tt

-- ---- of its bytes

-- a fault of the text
pub text_fault : (bytes : List ℕ) (r : Refusal) → text.Judges bytes (Err r) → Reads bytes (Err r)
text_fault bytes (refusal.Fault f) j = inl j
text_fault bytes refusal.NoMemory j = tt

pub says_of : (bytes : List ℕ) (t : Tree) (r : Result Description Fault) → IsTreeOfText bytes t → elaborated (classes bytes (tree_of t)) ≡ r → Says bytes r
says_of bytes t r has says = record { tree = tree_of t; has = has.has; says = says }

-- a fault of what the text describes
pub said_fault : (bytes : List ℕ) (t : Tree) (r : Refusal) → IsTreeOfText bytes t → Answers (Err r) (elaborated (classes bytes (tree_of t))) → Reads bytes (Err r)
said_fault bytes t (refusal.Fault f) has a = inr (inl (says_of bytes t (Err f) has a))
said_fault bytes t refusal.NoMemory has a = tt

-- what becomes of the description
pub read : (bytes : List ℕ) (t : Tree) (d : Description) (r : Result Description Refusal) → IsTreeOfText bytes t → Answers (Ok d) (elaborated (classes bytes (tree_of t))) → Judges d r → Reads bytes r
read bytes t d (Ok e) has a m = record { described = d; says = says_of bytes t (Ok d) has a; flat = m.0; fit = m.1 }
read bytes t d (Err (refusal.Fault f)) has a m = inr (inr (d, says_of bytes t (Ok d) has a, m))
read bytes t d (Err refusal.NoMemory) has a m = tt

-- ---- its circuit

pub module_keeps : (bytes : List ℕ) (e : Description) → IsModuleOf bytes e → Keeps e.design
module_keeps bytes e m = flat_keeps m.described e m.flat

-- a fault of the circuit is one of the description
pub circuit_fault : (bytes : List ℕ) (e : Description) (f : Fault) → IsModuleOf bytes e → HasFault e.design f → Meaning bytes (Err f)
circuit_fault bytes e f m h = inr (inr (m.described, m.says, module_refused m.described f (plain_top m.described e m.flat m.fit) (e, m.flat, inr (m.fit, h))))

-- without one the bytes mean the description
pub means : (bytes : List ℕ) (e : Description) → (m : IsModuleOf bytes e) → IsFaultless e.design → Meaning bytes (Ok m.described)
means bytes e m none = (m.says, (e, m.flat, m.fit, none))
