-- A command that comes to give comes to no fault, and lacks no file: it goes on in one way.
use Rattle.std.proofs.Common.{◌≡◌, ℕ, List, [], ◌∷◌, ◌++◌, length, Option, Some, None, refl, sym, ap, subst, ◌∙◌, append_assoc, append-nil, inl, inr, ◌⊎◌, arith}
use Rattle.lx_outside.specs.declared.calls.Pair.{Pair}
use Rattle.lx_outside.specs.Calls.{file_of}
use Rattle.lx_text.specs.declared.faults.Fault.{Fault}
use Rattle.lx_command.specs.Commands.{Asked}
use Rattle.lx_command.specs.Next.{Next, Wants, Refuses, Gives, SameNext}
use Rattle.lx_top.specs.Table.{Step}
use Rattle.lx_command.specs.World.{LacksFile, IsLongFile}
use Rattle.lx_top.specs.Outcome.{IsLoaded, Reached, Comes, IsAtFault}
use Rattle.lx_top.specs.Completeness.{IsGivingLaw}
use Rattle.lx_top.proofs.Answers.{one_answer}

same_file : (files : List Pair) (a b x y : List ℕ) → a ≡ b → file_of files a ≡ Some x → file_of files b ≡ Some y → x ≡ y
same_file files a b x y e p q =
    let other : file_of files a ≡ Some y = subst (λ (n : List ℕ). file_of files n ≡ Some y) (sym e) q in
    cc

no_file : (files : List Pair) (a b x : List ℕ) → a ≡ b → file_of files a ≡ Some x → file_of files b ≡ None → ⊥
no_file files a b x e p q =
    let other : file_of files a ≡ None = subst (λ (n : List ℕ). file_of files n ≡ None) (sym e) q in
    cc

-- behind the same files the same one is loaded
one_loaded : (files : List Pair) (c : Asked) (had : List (List ℕ)) (x y : List ℕ) → IsLoaded (Some files) c had x → IsLoaded (Some files) c had y → x ≡ y
one_loaded files c had x y p q =
    let same = one_answer c had (Wants p.name p.limit) (Wants q.name q.limit) p.wanted q.wanted in
    same_file files p.name q.name x y same.0 p.loaded q.loaded

reached_before : (told : Option (List Pair)) (c : Asked) (xs had : List (List ℕ)) → Reached told c (xs ++ had) → Reached told c had
reached_before told c [] had r = r
reached_before told c (x ∷ xs) had r = reached_before told c xs had r.0

-- a list is empty or has a last item
record HasLast (xs : List (List ℕ)) : Type 0 where
  front : List (List ℕ)
  last : List ℕ
  is : xs ≡ front ++ last ∷ []

by_last : (xs : List (List ℕ)) → (xs ≡ []) ⊎ HasLast xs
by_last [] = inl refl
by_last (x ∷ xs) = elim (by_last xs) [
  | inl e ↦ inr (record { front = []; last = x; is = ap (λ (l : List (List ℕ)). x ∷ l) e })
  | inr h ↦ inr (record { front = x ∷ h.front; last = h.last; is = ap (λ (l : List (List ℕ)). x ∷ l) h.is })
]

-- the longer list goes on behind the shorter one
record GoesOn (had long : List (List ℕ)) : Type 0 where
  more : List (List ℕ)
  is : long ≡ more ++ had

-- what was loaded first behind the shorter one
next_loaded : (told : Option (List Pair)) (c : Asked) (had long : List (List ℕ)) (g : GoesOn had long) (h : HasLast g.more) → Reached told c long → IsLoaded told c had h.last
next_loaded told c had long g h r =
    let whole : long ≡ h.front ++ (h.last ∷ had) = g.is ∙ ap (λ (l : List (List ℕ)). l ++ had) h.is ∙ append_assoc h.front (h.last ∷ []) had in
    (reached_before told c h.front (h.last ∷ had) (subst (λ (l : List (List ℕ)). Reached told c l) whole r)).1

with_next : (files : List Pair) (c : Asked) (x : List ℕ) (h k : List (List ℕ)) → IsLoaded (Some files) c h x → Reached (Some files) c k → GoesOn h k → GoesOn (x ∷ h) k ⊎ GoesOn k (x ∷ h)
with_next files c x h k own r g = elim (by_last g.more) [
  | inl e ↦ inr (record { more = x ∷ []; is = ap (λ (l : List (List ℕ)). x ∷ l) (sym (g.is ∙ ap (λ (l : List (List ℕ)). l ++ h) e)) })
  | inr last ↦
      let other = next_loaded (Some files) c h k g last r in
      let same : last.last ≡ x = sym (one_loaded files c h x last.last own other) in
      inl (record {
        more = last.front;
        is = g.is ∙ ap (λ (l : List (List ℕ)). l ++ h) last.is ∙ append_assoc last.front (last.last ∷ []) h ∙ ap (λ (b : List ℕ). last.front ++ (b ∷ h)) same;
      })
]

-- of two chains of a command one goes on behind the other
compared : (files : List Pair) (c : Asked) (h k : List (List ℕ)) → Reached (Some files) c h → Reached (Some files) c k → GoesOn h k ⊎ GoesOn k h
compared files c [] k p q = inl (record { more = k; is = sym (append-nil k) })
compared files c (x ∷ h) k p q = elim (compared files c h k p.0 q) [
  | inl g ↦ with_next files c x h k p.1 q g
  | inr g ↦ inr (record { more = x ∷ g.more; is = ap (λ (l : List (List ℕ)). x ∷ l) g.is })
]

-- what a command comes to that comes to give: it gives too, or wants a file that is loaded
record IsOnTheWay (files : List Pair) (c : Asked) (n : Next) : Type 0 where
  had : List (List ℕ)
  bytes : List ℕ
  loaded : IsLoaded (Some files) c had bytes
  same : SameNext (Wants loaded.name loaded.limit) n

ends_with : (files : List Pair) (c : Asked) (given : List Pair) (text : List ℕ) (n : Next) → (g : Comes (Some files) c (Gives given text)) → (h : Comes (Some files) c n) → g.had ≡ h.had → SameNext (Gives given text) n
ends_with files c given text n g h e = one_answer c h.had (Gives given text) n (subst (λ (l : List (List ℕ)). Step c l (Gives given text)) e g.step) h.step

on_the_way : (files : List Pair) (c : Asked) (given : List Pair) (text : List ℕ) (n : Next) → Comes (Some files) c (Gives given text) → Comes (Some files) c n → SameNext (Gives given text) n ⊎ IsOnTheWay files c n
on_the_way files c given text n g h = elim (compared files c h.had g.had h.reached g.reached) [
  | inl k ↦ elim (by_last k.more) [
    | inl e ↦ inl (ends_with files c given text n g h (k.is ∙ ap (λ (l : List (List ℕ)). l ++ h.had) e))
    | inr last ↦
        let loaded = next_loaded (Some files) c h.had g.had k last g.reached in
        inr (record { had = h.had; bytes = last.last; loaded = loaded; same = one_answer c h.had (Wants loaded.name loaded.limit) n loaded.wanted h.step })
  ]
  | inr k ↦ elim (by_last k.more) [
    | inl e ↦ inl (ends_with files c given text n g h (sym (k.is ∙ ap (λ (l : List (List ℕ)). l ++ g.had) e)))
    | inr last ↦
        let loaded = next_loaded (Some files) c g.had h.had k last h.reached in
        absurd (one_answer c g.had (Gives given text) (Wants loaded.name loaded.limit) g.step loaded.wanted)
  ]
]

lacks_none : (files : List Pair) (c : Asked) (given : List Pair) (text name : List ℕ) (limit : ℕ) → Comes (Some files) c (Gives given text) → Comes (Some files) c (Wants name limit) → LacksFile (Some files) name → ⊥
lacks_none files c given text name limit g h lacks = elim (on_the_way files c given text (Wants name limit) g h) [
  | inl bad ↦ bad
  | inr way ↦ no_file files way.loaded.name name way.bytes way.same.0 way.loaded.loaded lacks
]

no_long : (files : List Pair) (c : Asked) (given : List Pair) (text name : List ℕ) (limit : ℕ) → Comes (Some files) c (Gives given text) → Comes (Some files) c (Wants name limit) → IsLongFile (Some files) name limit → ⊥
no_long files c given text name limit g h long = elim (on_the_way files c given text (Wants name limit) g h) [
  | inl bad ↦ bad
  | inr way ↦
      let same : way.bytes ≡ long.bytes = same_file files way.loaded.name name way.bytes long.bytes way.same.0 way.loaded.loaded long.loaded in
      let lengths = ap length same in
      let limits = way.same.1 in
      let short = way.loaded.short in
      let above = long.long in
      omega arith
]

no_refusal : (files : List Pair) (c : Asked) (given : List Pair) (text file : List ℕ) (f : Fault) → Comes (Some files) c (Gives given text) → Comes (Some files) c (Refuses file f) → ⊥
no_refusal files c given text file f g h = elim (on_the_way files c given text (Refuses file f) g h) [ inl bad ↦ bad | inr way ↦ way.same ]

no_fault_at : (files : List Pair) (c : Asked) (given : List Pair) (text file : List ℕ) (f : Fault) → Comes (Some files) c (Gives given text) → IsAtFault (Some files) c file f → ⊥
no_fault_at files c given text file f g (inl h) = no_refusal files c given text file f g h
no_fault_at files c given text file f g (inr long) = no_long files c given text file long.0 g long.1 long.2

pub giving : IsGivingLaw
giving files c given text g = record {
  found = λ name limit h lacks. lacks_none files c given text name limit g h lacks;
  clean = λ file f at. no_fault_at files c given text file f g at;
}
