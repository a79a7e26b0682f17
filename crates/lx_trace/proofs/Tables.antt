-- Tables of names, signal by signal.
use Rattle.std.proofs.Common.{◌≡◌, ℕ, zero, suc, Bool, true, false, ◌&&◌, ◌+◌, ◌<◌, ◌≤◌, List, [], ◌∷◌, length, take, cond, refl, sym, ◌∙◌, ap, arith}
use Rattle.std.specs.Prelude.{Option, Some, None, slice_get, IfSome}
use Rattle.std.specs.Option.{option_or}
use Rattle.std.specs.Str.{bytes_eq}
use Rattle.std.proofs.lemmas.Slice.Eq.{bytes_eq-Decides}
use Rattle.lx_names.specs.Tables.{Table, look_up, with_name}
use Rattle.lx_names.proofs.Changes.{table_holds}
use Rattle.lx_circuit.proofs.Cases.{by_test}
use Rattle.lx_fhdl.specs.declared.design.Signal.{Signal}
use Rattle.lx_fhdl.specs.declared.design.Design.{Design}
use Rattle.lx_trace.specs.Directories.{IsAdded, IsTable}
use Rattle.lx_trace.specs.Traces.{has_path, signal_among, signal_named}

or_none : (o : Option ℕ) → option_or o None ≡ o
or_none None = refl
or_none (Some y) = refl

pub not_added : (old : Table ℕ) (name : List ℕ) (test : Bool) (x : ℕ) → test ≡ false → IsAdded old old name test x
not_added old name test x e = record {
  each = λ other. rw e (by_test (bytes_eq other name) (λ t. rw t (sym (or_none (look_up old other)))) (λ t. rw t (sym (or_none (look_up old other)))));
}

pub added_there : (old : Table ℕ) (name : List ℕ) (x y : ℕ) → look_up old name ≡ Some y → IsAdded old old name true x
added_there old name x y e = record {
  each = λ other.
      by_test (bytes_eq other name)
      (λ t. let same : other ≡ name = (bytes_eq-Decides other name).0 t in rw (ap (look_up old) same ∙ e) refl)
      (λ t. rw t (sym (or_none (look_up old other))));
}

pub added_new : (old : Table ℕ) (name : List ℕ) (x : ℕ) → look_up old name ≡ None → IsAdded old (with_name old name x) name true x
added_new old name x e = record {
  each = λ other.
      by_test (bytes_eq other name)
      (λ t. let same : other ≡ name = (bytes_eq-Decides other name).0 t in
      rw (t, same, e) ((table_holds ℕ).set old name x))
      (λ t. rw t ((table_holds ℕ).set_elsewhere old name other x t ∙ sym (or_none (look_up old other))));
}

-- ---- signals

-- one signal more behind k others
among_next : (k : ℕ) (ss : List Signal) (ns : List (List ℕ)) (s : Signal) (n name : List ℕ) (i : ℕ) → slice_get ss i ≡ Some s → slice_get ns i ≡ Some n
    → signal_among k (take (suc i) ss) (take (suc i) ns) name ≡ option_or (signal_among k (take i ss) (take i ns) name) (cond (bytes_eq name n && has_path s) (Some (k + i)) None)
among_next k [] ns s n name i e f = absurd cc
among_next k (t ∷ ts) [] s n name i e f = absurd cc
among_next k (t ∷ ts) (m ∷ ms) s n name zero e f =
    let a : t ≡ s = cc in
    let b : m ≡ n = cc in
    rw (a, b) (by_test (bytes_eq name n && has_path s) (λ h. rw h (ap Some (let q : k ≡ k + 0 = omega arith in q))) (λ h. rw h refl))
among_next k (t ∷ ts) (m ∷ ms) s n name (suc i) e f =
    by_test (bytes_eq name m && has_path t)
    (λ h. rw h refl)
    (λ h. rw h (among_next (k + 1) ts ms s n name i e f ∙ ap (λ (j : ℕ). option_or (signal_among (k + 1) (take i ts) (take i ms) name) (cond (bytes_eq name n && has_path s) (Some j) None)) (let q : k + 1 + i ≡ k + suc i = omega arith in q)))

pub among_all : (k : ℕ) (ss : List Signal) (ns : List (List ℕ)) (name : List ℕ) → length ss ≤ length ns → signal_among k (take (length ss) ss) (take (length ss) ns) name ≡ signal_among k ss ns name
among_all k [] ns name h = refl
among_all k (t ∷ ts) [] name h = absurd (omega arith)
among_all k (t ∷ ts) (m ∷ ms) name h = ap (λ (o : Option ℕ). cond (bytes_eq name m && has_path t) (Some k) o) (among_all (k + 1) ts ms name (omega arith))

below_more : (k m n : ℕ) (o : Option ℕ) → m ≤ n → IfSome o (λ x. x < m) → IfSome o (λ x. x < n)
below_more k m n None l h = h
below_more k m n (Some x) l h = omega (arith, h)

-- the signal is one of the design's
pub among_below : (k : ℕ) (ss : List Signal) (ns : List (List ℕ)) (name : List ℕ) → IfSome (signal_among k ss ns name) (λ x. x < k + length ss)
among_below k [] ns name = tt
among_below k (t ∷ ts) [] name = tt
among_below k (t ∷ ts) (m ∷ ms) name =
    by_test (bytes_eq name m && has_path t)
    (λ h. rw h (omega arith))
    (λ h. rw h (below_more k (k + 1 + length ts) (k + suc (length ts)) (signal_among (k + 1) ts ms name) (omega arith) (among_below (k + 1) ts ms name)))

pub named_below : (d : Design) (names : List (List ℕ)) (name : List ℕ) (o : Option ℕ) → o ≡ signal_named d names name → IfSome o (λ x. x < length d.signals)
named_below d names name o e = rw e (below_more 0 (0 + length d.signals) (length d.signals) (signal_named d names name) (omega arith) (among_below 0 d.signals names name))

-- the table of the first signals
abbrev pub IsTableTo : Design → List (List ℕ) → ℕ → Table ℕ → Type 0
IsTableTo d names i table = (name : List ℕ) → look_up table name ≡ signal_among 0 (take i d.signals) (take i names) name

pub table_more : (d : Design) (names : List (List ℕ)) (x : ℕ) (s : Signal) (n m : List ℕ) (old new : Table ℕ) → n ≡ m → slice_get d.signals x ≡ Some s → slice_get names x ≡ Some m
    → IsTableTo d names x old → IsAdded old new n (has_path s) x → IsTableTo d names (x + 1) new
table_more d names x s n m old new same e f is added = λ name.
    let next : x + 1 ≡ suc x = omega arith in
    let none : x ≡ 0 + x = omega arith in
    added.each name
    ∙ (ap (λ (o : Option ℕ). option_or o (cond (bytes_eq name n && has_path s) (Some x) None)) (is name)
    ∙ (ap (λ (q : List ℕ). option_or (signal_among 0 (take x d.signals) (take x names) name) (cond (bytes_eq name q && has_path s) (Some x) None)) same
    ∙ (ap (λ (j : ℕ). option_or (signal_among 0 (take x d.signals) (take x names) name) (cond (bytes_eq name m && has_path s) (Some j) None)) none
    ∙ (sym (among_next 0 d.signals names s m name x e f)
    ∙ ap (λ (j : ℕ). signal_among 0 (take j d.signals) (take j names) name) (sym next)))))

pub table_all : (d : Design) (names : List (List ℕ)) (x : ℕ) (table : Table ℕ) → length d.signals ≤ length names → x ≡ length d.signals → IsTableTo d names x table → IsTable d names table
table_all d names x table h e is = record {
  each = λ name. is name ∙ (ap (λ (j : ℕ). signal_among 0 (take j d.signals) (take j names) name) e ∙ among_all 0 d.signals names name h);
}
