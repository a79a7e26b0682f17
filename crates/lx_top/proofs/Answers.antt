-- From the same files a command goes on in one way.
use Rattle.std.proofs.Common.{◌≡◌, ℕ, Bool, true, false, List, [], ◌∷◌, Result, Ok, Err, refl, sym, ◌∙◌, subst, map, inl, inr, ◌⊎◌}
use Rattle.lx_text.specs.Limits.{max_bytes}
use Rattle.lx_text.specs.declared.faults.Fault.{Fault}
use Rattle.lx_token.specs.declared.tokens.Token.{Token}
use Rattle.lx_grammar.specs.Derives.{Tree, IsTreeOf}
use Rattle.lx_grammar.specs.Signs.{item_of}
use Rattle.lx_grammar.proofs.Guided.{one_tree}
use Rattle.lx_syntax.specs.Classes.{classes}
use Rattle.lx_description.specs.declared.description.Description.{Description}
use Rattle.lx_elab.specs.Elaboration.{elaborated}
use Rattle.lx_translate.proofs.Alike.{fault_too}
use Rattle.lx_translate.proofs.Faultless.{no_fault_of}
use Rattle.lx_command.specs.Commands.{Build, Map, Sim, Poke, Gen}
use Rattle.lx_command.specs.Judging.{HasTree, HasTextFault}
use Rattle.lx_command.specs.Lines.{not_built}
use Rattle.lx_translate.specs.Translation.{HasFault}
use Rattle.lx_top.specs.Meaning.{Says, IsBuilt, IsModuleRefused, IsRefusedFor, IsListedAs, IsUnlistedAs, Meaning, Built, Listing, Listed, Simulated, Answered}
use Rattle.lx_command.specs.Next.{Next, Wants, Then, SameNext}
use Rattle.lx_top.specs.Modules.{is_module}
use Rattle.lx_running.proofs.Alike.{no_trace_fault}
use Rattle.lx_top.specs.Table.{IsOneAnswerLaw, WantsTrace}
use Rattle.lx_top.proofs.Flat.{flat_alike, module_alike}
use Rattle.lx_top.proofs.Systems.{no_place_fault, plain_top, refused_module}

-- a text has one tree
same_tree : (bytes : List ℕ) (t u : Tree) → HasTree bytes t → HasTree bytes u → t ≡ u
same_tree bytes t u p q =
    let same : p.tokens ≡ q.tokens = (let cut = p.cut in let other = q.cut in cc) in
    one_tree (map (item_of bytes) q.tokens) t u (subst (λ (ts : List Token). IsTreeOf (map (item_of bytes) ts) t) same p.derived) q.derived

-- a text with a tree has no fault
no_text_fault : (bytes : List ℕ) (t : Tree) (f : Fault) → HasTree bytes t → HasTextFault bytes f → ⊥
no_text_fault bytes t f h (inl e) = let cut = h.cut in cc
no_text_fault bytes t f h (inr e) =
    let same : h.tokens ≡ e.tokens = (let cut = h.cut in let other = e.cut in cc) in
    e.none t (subst (λ (ts : List Token). IsTreeOf (map (item_of bytes) ts) t) same h.derived)

-- a text says one thing
pub says_one : (bytes : List ℕ) (r s : Result Description Fault) → Says bytes r → Says bytes s → r ≡ s
says_one bytes r s p q =
    let said : elaborated (classes bytes q.tree) ≡ r = subst (λ (t : Tree). elaborated (classes bytes t) ≡ r) (same_tree bytes p.tree q.tree p.has q.has) p.says in
    let other = q.says in
    cc

-- a description that is built isn't refused
not_refused : (d : Description) (f : Fault) → IsBuilt d → IsModuleRefused d f → ⊥
not_refused d f b r = by r.2
  where
    by : ((is_module r.0 ≡ false) × (f ≡ not_built)) ⊎ ((is_module r.0 ≡ true) × HasFault r.0.design f) → ⊥
    by (inl x) = let bad : true ≡ false = sym b.2 ∙ module_alike d b.0 r.0 b.1 r.1 ∙ x.0 in absurd cc
    by (inr x) = no_fault_of b.0.design f b.3 (fault_too r.0.design b.0.design f (flat_alike d r.0 b.0 r.1 b.1) x.1)

-- bytes that mean a description have no fault
no_fault : (bytes : List ℕ) (x : Description) (f : Fault) → Meaning bytes (Ok x) → Meaning bytes (Err f) → ⊥
no_fault bytes x f m (inl e) = no_text_fault bytes m.0.tree f m.0.has e
no_fault bytes x f m (inr (inl e)) = let q = says_one bytes (Ok x) (Err f) m.0 e in cc
no_fault bytes x f m (inr (inr e)) =
    let q = says_one bytes (Ok x) (Ok e.0) m.0 e.1 in
    let same : e.0 ≡ x = cc in
    not_refused x f m.1 (refused_module x f (plain_top x m.1.0 m.1.1 m.1.2) (subst (λ (d : Description). IsRefusedFor d f) same e.2))

-- where a meaning is no fault and goes on in one way, so does the chain
same_then : {A : Type 0} (file : List ℕ) (M : Result A Fault → Type 0) (on : A → Next → Type 0) (n m : Next) → ((x : A) (f : Fault) → M (Ok x) → M (Err f) → ⊥)
    → ((x y : A) → M (Ok x) → M (Ok y) → on x n → on y m → SameNext n m) → Then file M on n → Then file M on m → SameNext n m
same_then file M on n m one same (inl p) (inl q) = rw (p.2, q.2) refl
same_then file M on n m one same (inl p) (inr q) = absurd (one q.0 p.0 q.1 p.1)
same_then file M on n m one same (inr p) (inl q) = absurd (one p.0 q.0 p.1 q.1)
same_then file M on n m one same (inr p) (inr q) = same p.0 q.0 p.1 q.1 p.2 q.2

both_built : (x y : Description) (n m : Next) → Built x n → Built y m → SameNext n m
both_built x y n m p q = rw (p.2, q.2) tt

-- ---- listings

both_listed : (x y : Description) (n m : Next) → Listed x n → Listed y m → SameNext n m
both_listed x y n m p q = rw (p.2, q.2) tt

-- a description that is listed isn't refused
listed_or_not : (b : Bool) (d : Description) (f : Fault) → IsListedAs b d → IsUnlistedAs b d f → ⊥
listed_or_not true d f h e = no_place_fault d f h e
listed_or_not false d f h e = not_refused d f h e

no_unlisted : (bytes : List ℕ) (x : Description) (f : Fault) → Listing bytes (Ok x) → Listing bytes (Err f) → ⊥
no_unlisted bytes x f m (inl e) = no_text_fault bytes m.0.tree f m.0.has e
no_unlisted bytes x f m (inr (inl e)) = let q = says_one bytes (Ok x) (Err f) m.0 e in cc
no_unlisted bytes x f m (inr (inr e)) =
    let q = says_one bytes (Ok x) (Ok e.0) m.0 e.1 in
    let same : e.0 ≡ x = cc in
    listed_or_not x.soc x f m.1 (subst (λ (d : Description). IsUnlistedAs d.soc d f) same e.2)

-- ---- traces

both_want : (trace : List ℕ) (n m : Next) → n ≡ Wants trace max_bytes → m ≡ Wants trace max_bytes → SameNext n m
both_want trace n m p q = rw (p, q) (refl, refl)

both_answered : (x y : List ℕ) (n m : Next) → Answered x n → Answered y m → SameNext n m
both_answered x y n m p q = rw (p, q) tt

-- a trace that is answered has no fault
answered_or_not : (d : Description) (lines text : List ℕ) (f : Fault) → Simulated d lines (Ok text) → Simulated d lines (Err f) → ⊥
answered_or_not d lines text f p q = no_trace_fault p.0.design q.0.design lines text f (flat_alike d p.0 q.0 p.1 q.1) p.2 q.2

both_run : (trace lines bytes : List ℕ) (n m : Next) (x y : Description) → Meaning bytes (Ok x) → Meaning bytes (Ok y) → Then trace (Simulated x lines) Answered n → Then trace (Simulated y lines) Answered m → SameNext n m
both_run trace lines bytes n m x y a b p q =
    let e = says_one bytes (Ok x) (Ok y) a.0 b.0 in
    let same : x ≡ y = cc in
    same_then trace (Simulated y lines) Answered n m (answered_or_not y lines) (λ t u _ _ g h. both_answered t u n m g h) (subst (λ (d : Description). Then trace (Simulated d lines) Answered n) same p) q

pub one_answer : IsOneAnswerLaw
one_answer (Build source) [] n m p q = rw (p, q) (refl, refl)
one_answer (Build source) (bytes ∷ []) n m p q = same_then source (Meaning bytes) Built n m (no_fault bytes) (λ x y _ _ a b. both_built x y n m a b) p q
one_answer (Build source) (bytes ∷ more ∷ rest) n m p q = absurd p
one_answer (Map source) [] n m p q = rw (p, q) (refl, refl)
one_answer (Map source) (bytes ∷ []) n m p q = same_then source (Listing bytes) Listed n m (no_unlisted bytes) (λ x y _ _ a b. both_listed x y n m a b) p q
one_answer (Map source) (bytes ∷ more ∷ rest) n m p q = absurd p
one_answer (Sim source trace) [] n m p q = rw (p, q) (refl, refl)
one_answer (Sim source trace) (bytes ∷ []) n m p q = same_then source (Meaning bytes) (WantsTrace trace) n m (no_fault bytes) (λ x y _ _ a b. both_want trace n m a b) p q
one_answer (Sim source trace) (lines ∷ bytes ∷ []) n m p q = both_run trace lines bytes n m p.0 q.0 p.1 q.1 p.2 q.2
one_answer (Sim source trace) (more ∷ lines ∷ bytes ∷ rest) n m p q = absurd p
one_answer (Poke source script) [] n m p q = rw (p, q) refl
one_answer (Poke source script) (bytes ∷ had) n m p q = absurd p
one_answer (Gen size) [] n m p q = rw (p, q) refl
one_answer (Gen size) (bytes ∷ had) n m p q = absurd p
