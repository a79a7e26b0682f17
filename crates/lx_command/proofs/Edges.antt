-- What is read, written and passed on, a step at a time.
use Rattle.std.proofs.Common.{◌≡◌, ℕ, zero, suc, ◌+◌, ◌-◌, List, [], ◌∷◌, ◌++◌, length, take, drop, slice_get, Option, Some, None, IfSome, Err, sym, ap, subst, ◌∙◌, arith, append_assoc, take-append-drop, add-one}
use Rattle.std.proofs.lemmas.List.{take-append-le, take_all, take_rest, length-append}
use Rattle.std.specs.Io.KnownBytes.{Appends, Consumes, Keeps}
use Rattle.std.specs.declared.env.FillError.{FillError}
use Rattle.std.specs.declared.env.FillError.TheVariants as filling
use Rattle.lx_outside.specs.Calls.{IsCutOff}
use Rattle.lx_outside.specs.declared.calls.LoadFault.{LoadFault}
use Rattle.lx_outside.specs.declared.calls.LoadFault.TheVariants as faults
use Rattle.lx_command.specs.Reading.{Fetches, IsUnread, Copies, IsCopied, IsArgument, IsPassed, ArePassed}

take_front : (done rest : List ℕ) → take (length done) (done ++ rest) ≡ done
take_front done rest = take-append-le (length done) done rest (omega arith) ∙ take_all (length done) done (omega arith)

-- what was written so far is a prefix of the bytes
pub wrote_part : (a b : Option (List ℕ)) (bytes done rest : List ℕ) → bytes ≡ done ++ rest → Appends a b done → (k : ℕ) × Appends a b (take k bytes)
wrote_part a b bytes done rest e p =
    (length done, subst (λ (x : List ℕ). Appends a b x) (sym (ap (take (length done)) e ∙ take_front done rest)) p)

-- a writer that took nothing holds what it held
pub appends_kept : (a b c : Option (List ℕ)) (bs : List ℕ) → Appends a b bs → Keeps b c → Appends a c bs
appends_kept None b c bs p q = tt
appends_kept (Some x) None c bs p q = absurd p
appends_kept (Some x) (Some y) None bs p q = absurd q
appends_kept (Some x) (Some y) (Some z) bs p q = q ∙ p

-- the bytes that were taken move from the rest to what is done
pub moves_front : (all done rest : List ℕ) (n : ℕ) → all ≡ done ++ rest → all ≡ (done ++ take n rest) ++ take (length rest - n) (drop n rest)
moves_front all done rest n e =
    e ∙ ap (λ (l : List ℕ). done ++ l) (sym (take-append-drop n rest)) ∙ sym (append_assoc done (take n rest) (drop n rest)) ∙ ap (λ (l : List ℕ). (done ++ take n rest) ++ l) (sym (take_rest rest n))

-- a read that gave nothing
pub unread : (limit : ℕ) (left : Option (List ℕ)) (f : LoadFault) → IsUnread f → Fetches limit left (Err f)
unread limit left faults.NoFile p = absurd p
unread limit left (faults.TooLong front) p = absurd p
unread limit left faults.Failed p = tt
unread limit left faults.NoMemory p = tt

-- a reader that gave more than the limit has more
pub cut_off : (a b : Option (List ℕ)) (front : List ℕ) (limit : ℕ) → Consumes a b front → length front ≡ limit + 1 → IfSome a (λ xs. IsCutOff xs limit front)
cut_off None b front limit p e = tt
cut_off (Some x) None front limit p e = absurd p
cut_off (Some x) (Some y) front limit p e =
    let whole : length x ≡ length front + length y = ap length p ∙ length-append front y in
    record { longer = omega arith; cut = sym (rw (← e) (ap (take (length front)) p ∙ take_front front y)) }

-- one more word is passed on
passed_push : (told words : List (List ℕ)) (place : ℕ) (given word : List ℕ) → ArePassed (take place told) words → slice_get told place ≡ Some given → IsPassed given word → ArePassed (take (suc place) told) (words ++ word ∷ [])
passed_push [] words place given word all e p = absurd cc
passed_push (t ∷ ts) [] zero given word all e p = (subst (λ (x : List ℕ). IsPassed x word) (let same : t ≡ given = cc in sym same) p, tt)
passed_push (t ∷ ts) (w ∷ ws) zero given word all e p = absurd all
passed_push (t ∷ ts) [] (suc place) given word all e p = absurd all
passed_push (t ∷ ts) (w ∷ ws) (suc place) given word all e p = (all.0, passed_push ts ws place given word all.1 e p)

pub passed_more : (told : Option (List (List ℕ))) (words : List (List ℕ)) (place : ℕ) (word : List ℕ) → IfSome told (λ ws. ArePassed (take place ws) words) → IfSome told (λ ws. IsArgument ws place (Some word)) → IfSome told (λ ws. ArePassed (take (place + 1) ws) (words ++ word ∷ []))
passed_more None words place word all one = tt
passed_more (Some ws) words place word all one = rw add-one (passed_push ws words place one.0 word all one.1 one.2)

pub passed_all : (told : Option (List (List ℕ))) (words : List (List ℕ)) (place : ℕ) → IfSome told (λ ws. ArePassed (take place ws) words) → IfSome told (λ ws. IsArgument ws place None) → IfSome told (λ ws. ArePassed ws words)
passed_all None words place all none = tt
passed_all (Some ws) words place all none = subst (λ (l : List (List ℕ)). ArePassed l words) (take_all place ws none) all

pub argument_from : (told : Option (List (List ℕ))) (place : ℕ) (given word : List ℕ) → IfSome told (λ ws. slice_get ws place ≡ Some given) → IsPassed given word → IfSome told (λ ws. IsArgument ws place (Some word))
argument_from None place given word is passed = tt
argument_from (Some ws) place given word is passed = (given, is, passed)

pub copied_none : (told : Option (List (List ℕ))) (place : ℕ) (buffer : List ℕ) (f : FillError) → Copies told place buffer (Err f) → IsCopied told place (Err f)
copied_none told place buffer filling.NotPresent none = none
copied_none told place buffer filling.TooLong none = tt
