-- Reserved names, and the first port whose name is taken.
use Rattle.std.proofs.Common.{◌≡◌, ℕ, ◌+◌, ◌<◌, ◌≤◌, Bool, true, false, cond, List, [], ◌∷◌, ◌++◌, Some, None, length, take, drop, get_or, refl, sym, ap, subst, ◌∙◌, flat_map}
use Rattle.std.proofs.lemmas.List.{append_assoc, append-nil, map-append, take-append-drop, take_all, take_more}
use Rattle.std.proofs.lemmas.Grind.{flat_map-append}
use Rattle.lx_vtext.specs.Tree.{Name}
use Rattle.lx_text.specs.declared.faults.Refusal.{Refusal}
use Rattle.lx_text.specs.declared.faults.Refusal.TheVariants as refusal
use Rattle.lx_fhdl.specs.declared.exprs.SigId.{SigId}
use Rattle.lx_fhdl.specs.declared.design.Domain.{Domain}
use Rattle.lx_fhdl.specs.declared.design.Design.{Design}
use Rattle.lx_emission.specs.Naming.{is_among}
use Rattle.lx_namer.specs.Giving.{TellsFault, TellsTaken}
use Rattle.lx_namer.specs.Names.{domain_names, name_taken, own_name, port_fault, port_names, reserved}
use Rattle.lx_namer.specs.Taken.{HaveTheSame, IsTakenToo}
use Rattle.lx_namer.proofs.Free.{same_after, same_more, same_of}

-- ---- reserved names

pub domain_next : (d : Design) (k : ℕ) (old new : List Name) (domains : List Domain) (a : Domain) → k < length domains → a ≡ get_or domains k a → HaveTheSame old (flat_map (domain_names d) (take k domains)) → HaveTheSame new (old ++ domain_names d a) → HaveTheSame new (flat_map (domain_names d) (take (k + 1) domains))
domain_next d k old new domains a l e h m =
    let last : take (k + 1) domains ≡ take k domains ++ a ∷ [] = take_more domains k a l ∙ ap (λ (b : Domain). take k domains ++ b ∷ []) (sym e) in
    let all : flat_map (domain_names d) (take k domains) ++ domain_names d a ≡ flat_map (domain_names d) (take (k + 1) domains) =
    ap (λ (ns : List Name). flat_map (domain_names d) (take k domains) ++ ns) (sym (append-nil (domain_names d a)))
    ∙ sym (ap (flat_map (domain_names d)) last ∙ flat_map-append (domain_names d) (take k domains) (a ∷ [])) in
    same_after new (old ++ domain_names d a) (flat_map (domain_names d) (take (k + 1) domains)) m
    (same_after (old ++ domain_names d a) (flat_map (domain_names d) (take k domains) ++ domain_names d a) (flat_map (domain_names d) (take (k + 1) domains))
    (same_more old (flat_map (domain_names d) (take k domains)) (domain_names d a) h) (same_of _ _ all))

pub domain_taken : (old mid new : List Name) (name : Name) (names : List Name) → IsTakenToo old mid name → HaveTheSame new (mid ++ names) → HaveTheSame new (old ++ name ∷ names)
domain_taken old mid new name names h g =
    same_after new (mid ++ names) (old ++ name ∷ names) g
    (same_after (mid ++ names) ((old ++ name ∷ []) ++ names) (old ++ name ∷ names)
    (same_more mid (old ++ name ∷ []) names h) (same_of ((old ++ name ∷ []) ++ names) (old ++ name ∷ names) (append_assoc old (name ∷ []) names)))

-- ---- ports

pub fault_here : (d : Design) (taken : List Name) (xs : List SigId) (x : SigId) (ys : List SigId) → port_fault d taken xs ≡ None → is_among (own_name d x.0) (taken ++ port_names d xs) ≡ true → port_fault d taken (xs ++ x ∷ ys) ≡ Some (name_taken d x)
unfolding port_fault
fault_here d taken [] x ys h e =
    let some : is_among (own_name d x.0) taken ≡ true = ap (is_among (own_name d x.0)) (sym (append-nil taken)) ∙ e in
    rw some refl
fault_here d taken (y ∷ zs) x ys h e =
    by (λ g. fault_here d (taken ++ own_name d y.0 ∷ []) zs x ys g (ap (is_among (own_name d x.0)) (append_assoc taken (own_name d y.0 ∷ []) (port_names d zs)) ∙ e)) (is_among (own_name d y.0) taken) h
  where
    by : (port_fault d (taken ++ own_name d y.0 ∷ []) zs ≡ None → port_fault d (taken ++ own_name d y.0 ∷ []) (zs ++ x ∷ ys) ≡ Some (name_taken d x)) → (b : Bool) → cond b (Some (name_taken d y)) (port_fault d (taken ++ own_name d y.0 ∷ []) zs) ≡ None → cond b (Some (name_taken d y)) (port_fault d (taken ++ own_name d y.0 ∷ []) (zs ++ x ∷ ys)) ≡ Some (name_taken d x)
    by next true g = absurd cc
    by next false g = next g

fault_more : (d : Design) (taken : List Name) (xs : List SigId) (x : SigId) → port_fault d taken xs ≡ None → is_among (own_name d x.0) (taken ++ port_names d xs) ≡ false → port_fault d taken (xs ++ x ∷ []) ≡ None
unfolding port_fault
fault_more d taken [] x h e =
    let none : is_among (own_name d x.0) taken ≡ false = ap (is_among (own_name d x.0)) (sym (append-nil taken)) ∙ e in
    rw none refl
fault_more d taken (y ∷ zs) x h e =
    by (λ g. fault_more d (taken ++ own_name d y.0 ∷ []) zs x g (ap (is_among (own_name d x.0)) (append_assoc taken (own_name d y.0 ∷ []) (port_names d zs)) ∙ e)) (is_among (own_name d y.0) taken) h
  where
    by : (port_fault d (taken ++ own_name d y.0 ∷ []) zs ≡ None → port_fault d (taken ++ own_name d y.0 ∷ []) (zs ++ x ∷ []) ≡ None) → (b : Bool) → cond b (Some (name_taken d y)) (port_fault d (taken ++ own_name d y.0 ∷ []) zs) ≡ None → cond b (Some (name_taken d y)) (port_fault d (taken ++ own_name d y.0 ∷ []) (zs ++ x ∷ [])) ≡ None
    by next true g = absurd cc
    by next false g = next g

-- the first k ports of a list have no fault, and their names are taken
pub record AreChecked (d : Design) (first : List Name) (xs : List SigId) (names : List Name) : Type 0 where
  pub none : port_fault d first xs ≡ None
  pub taken : HaveTheSame names (first ++ port_names d xs)

pub none_checked : (d : Design) (first taken : List Name) → HaveTheSame taken first → AreChecked d first [] taken
unfolding port_fault
none_checked d first taken h = record { none = refl; taken = same_after taken first (first ++ []) h (same_of first (first ++ []) (sym (append-nil first))) }

pub checked_next : (d : Design) (first : List Name) (k : ℕ) (xs : List SigId) (z : SigId) (old new : List Name) → k < length xs → AreChecked d first (take k xs) old → is_among (own_name d (get_or xs k z).0) old ≡ false → IsTakenToo old new (own_name d (get_or xs k z).0) → AreChecked d first (take (k + 1) xs) new
checked_next d first k xs z old new l h e t =
    let x = get_or xs k z in
    let n = own_name d x.0 in
    let last = take_more xs k z l in
    let free : is_among n (first ++ port_names d (take k xs)) ≡ false = sym (h.taken.each n) ∙ e in
    let all : (first ++ port_names d (take k xs)) ++ n ∷ [] ≡ first ++ port_names d (take (k + 1) xs) =
    append_assoc first (port_names d (take k xs)) (n ∷ [])
    ∙ ap (λ (ns : List Name). first ++ ns) (sym (ap (port_names d) last ∙ map-append (λ (y : SigId). own_name d y.0) (take k xs) (x ∷ []))) in
    record {
      none = ap (port_fault d first) last ∙ fault_more d first (take k xs) x h.none free;
      taken = same_after new (old ++ n ∷ []) (first ++ port_names d (take (k + 1) xs)) t
          (same_after (old ++ n ∷ []) ((first ++ port_names d (take k xs)) ++ n ∷ []) (first ++ port_names d (take (k + 1) xs))
          (same_more old (first ++ port_names d (take k xs)) (n ∷ []) h.taken) (same_of _ _ all));
    }

taken_drop : (k : ℕ) (xs : List SigId) (z : SigId) → k < length xs → xs ≡ take k xs ++ get_or xs k z ∷ drop (k + 1) xs
taken_drop k xs z l = sym (take-append-drop (k + 1) xs) ∙ ap (λ (ys : List SigId). ys ++ drop (k + 1) xs) (take_more xs k z l) ∙ append_assoc (take k xs) (get_or xs k z ∷ []) (drop (k + 1) xs)

pub checked_fault : (d : Design) (first : List Name) (k : ℕ) (xs : List SigId) (z : SigId) (old : List Name) → k < length xs → AreChecked d first (take k xs) old → is_among (own_name d (get_or xs k z).0) old ≡ true → port_fault d first xs ≡ Some (name_taken d (get_or xs k z))
checked_fault d first k xs z old l h e =
    let x = get_or xs k z in
    ap (port_fault d first) (taken_drop k xs z l) ∙ fault_here d first (take k xs) x (drop (k + 1) xs) h.none (sym (h.taken.each (own_name d x.0)) ∙ e)

pub port_refused : (d : Design) (first : List Name) (k : ℕ) (xs : List SigId) (z : SigId) (old : List Name) (r : Refusal) → k < length xs → xs ≡ d.ios → AreChecked d first (take k xs) old → TellsTaken old d (get_or xs k z) r → TellsFault (port_fault d first d.ios) r
port_refused d first k xs z old (refusal.Fault f) l e h t = ap (port_fault d first) (sym e) ∙ checked_fault d first k xs z old l h t.0 ∙ ap Some (sym t.1)
port_refused d first k xs z old refusal.NoMemory l e h t = tt

pub reserved_all : (d : Design) (k : ℕ) (domains : List Domain) (taken : List Name) → domains ≡ d.domains → length domains ≤ k → HaveTheSame taken (flat_map (domain_names d) (take k domains)) → HaveTheSame taken (reserved d)
unfolding reserved
reserved_all d k domains taken e l h = subst (λ (as_ : List Domain). HaveTheSame taken (flat_map (domain_names d) as_)) (take_all k domains l ∙ e) h
