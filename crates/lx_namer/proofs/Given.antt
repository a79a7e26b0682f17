-- Names that are given, one wish after another.
use Rattle.std.proofs.Common.{◌≡◌, ℕ, ◌+◌, cond, List, [], ◌∷◌, ◌++◌, sym, ap, subst, ◌∙◌, arith}
use Rattle.std.proofs.lemmas.List.{append_assoc, append-nil}
use Rattle.std.proofs.lemmas.List.FromFn.{map-range_with_len_more}
use Rattle.lx_vtext.specs.Tree.{Name}
use Rattle.lx_fhdl.specs.declared.design.Design.{Design}
use Rattle.lx_namer.specs.Giving.{AreGiven, IsGivenToo}
use Rattle.lx_namer.specs.Names.{Wish, all_given, given, memory_wish, memory_wishes, signal_wish, signal_wishes}
use Rattle.lx_namer.specs.Taken.{HaveTheSame}
use Rattle.lx_namer.specs.declared.names.Namer.{Namer}
use Rattle.lx_namer.proofs.Free.{same_after, same_free, same_more, same_of}

pub same_given : (a b : List Name) (w : Wish) → HaveTheSame a b → given a w ≡ given b w
unfolding given
same_given a b w h = ap (λ n. cond w.only w.name n) (same_free a b w.name h)

pub all_given_more : (taken : List Name) (ws : List Wish) (w : Wish) → all_given taken (ws ++ w ∷ []) ≡ all_given taken ws ++ given (taken ++ all_given taken ws) w ∷ []
unfolding all_given
all_given_more taken [] w = ap (λ (t : List Name). given t w ∷ []) (sym (append-nil taken))
all_given_more taken (v ∷ vs) w =
    let n = given taken v in
    let rest = all_given (taken ++ n ∷ []) vs in
    ap (λ ns. n ∷ ns) (all_given_more (taken ++ n ∷ []) vs w ∙ ap (λ (t : List Name). rest ++ given t w ∷ []) (append_assoc taken (n ∷ []) rest))

given_more : (first : List Name) (ws : List Wish) (w : Wish) (old new : Namer) → AreGiven first ws old → IsGivenToo old new w → AreGiven first (ws ++ w ∷ []) new
given_more first ws w old new h g =
    let n = given old.taken w in
    let same : n ≡ given (first ++ all_given first ws) w = same_given old.taken (first ++ old.names) w h.taken ∙ ap (λ (ns : List Name). given (first ++ ns) w) h.names in
    let after : (first ++ old.names) ++ n ∷ [] ≡ first ++ new.names = append_assoc first old.names (n ∷ []) ∙ ap (λ (ns : List Name). first ++ ns) (sym g.name) in
    record {
      names = g.name ∙ ap (λ (ns : List Name). ns ++ n ∷ []) h.names ∙ ap (λ m. all_given first ws ++ m ∷ []) same ∙ sym (all_given_more first ws w);
      taken = same_after new.taken ((first ++ old.names) ++ n ∷ []) (first ++ new.names)
          (same_after new.taken (old.taken ++ n ∷ []) ((first ++ old.names) ++ n ∷ []) g.taken (same_more old.taken (first ++ old.names) (n ∷ []) h.taken))
          (same_of ((first ++ old.names) ++ n ∷ []) (first ++ new.names) after);
    }

given_as : (first : List Name) (vs ws : List Wish) (namer : Namer) → vs ≡ ws → AreGiven first vs namer → AreGiven first ws namer
given_as first vs ws namer e h = subst (λ (us : List Wish). AreGiven first us namer) e h

-- no wish, where nothing was given
pub none_given : (first : List Name) (namer : Namer) → namer.names ≡ [] → HaveTheSame namer.taken first → AreGiven first [] namer
unfolding all_given
none_given first namer e h = record {
  names = e;
  taken = same_after namer.taken first (first ++ namer.names) h (same_of first (first ++ namer.names) (sym (append-nil first) ∙ ap (λ (ns : List Name). first ++ ns) (sym e)));
}

pub signal_next : (d : Design) (first : List Name) (n : ℕ) (old new : Namer) → AreGiven first (signal_wishes d n) old → IsGivenToo old new (signal_wish d n) → AreGiven first (signal_wishes d (n + 1)) new
signal_next d first n old new h g =
    given_as first (signal_wishes d n ++ signal_wish d n ∷ []) (signal_wishes d (n + 1)) new (sym (map-range_with_len_more (signal_wish d) 0 n n (omega arith)))
    (given_more first (signal_wishes d n) (signal_wish d n) old new h g)

pub memory_first : (d : Design) (first : List Name) (ws : List Wish) (namer : Namer) → AreGiven first ws namer → AreGiven first (ws ++ memory_wishes d 0) namer
memory_first d first ws namer h = given_as first ws (ws ++ memory_wishes d 0) namer (sym (append-nil ws)) h

pub memory_next : (d : Design) (first : List Name) (ws : List Wish) (n : ℕ) (old new : Namer) → AreGiven first (ws ++ memory_wishes d n) old → IsGivenToo old new (memory_wish d n) → AreGiven first (ws ++ memory_wishes d (n + 1)) new
memory_next d first ws n old new h g =
    given_as first ((ws ++ memory_wishes d n) ++ memory_wish d n ∷ []) (ws ++ memory_wishes d (n + 1)) new
    (append_assoc ws (memory_wishes d n) (memory_wish d n ∷ []) ∙ ap (λ (vs : List Wish). ws ++ vs) (sym (map-range_with_len_more (memory_wish d) 0 n n (omega arith))))
    (given_more first (ws ++ memory_wishes d n) (memory_wish d n) old new h g)
