-- The faults of numbers of banks and interrupts, and the least numbers.
use Rattle.std.specs.Prelude.{◌≡◌, ℕ, ◌+◌, ◌<◌, ◌≤◌, Bool, true, false, not, min, ◌==◌, nat_lt, List, [], ◌∷◌, ◌++◌, Option, Some, None, map, flat_map, slice_get, length, if◌then◌else◌, ◌⊎◌}
use Rattle.std.specs.List.{list_any}
use Rattle.std.specs.Str.{bytes_eq}
use Rattle.lx_text.specs.declared.faults.Fault.{Fault}
use Rattle.lx_text.specs.declared.faults.Kind.{Kind}
use Rattle.lx_text.specs.declared.faults.Kind.TheVariants as kind
use Rattle.lx_fhdl.specs.declared.places.Fix.{Fix}
use Rattle.lx_fhdl.specs.declared.places.BankWish.{BankWish}
use Rattle.lx_fhdl.specs.declared.places.Numbered.{Numbered}
use Rattle.lx_alloc.specs.declared.numbers.Counted.{Counted}
use Rattle.lx_alloc.specs.declared.numbers.Counted.TheVariants.{Interrupts, Banks}
use Rattle.lx_alloc.specs.Judged.{told, each_pair}

-- what a fault of the one or the other is called
abbrev pub range_kind : Counted → List ℕ → ℕ → Kind
range_kind Interrupts name n = kind.IrqRange name n
range_kind Banks name n = kind.BankRange name n

abbrev pub taken_kind : Counted → ℕ → List ℕ → List ℕ → Kind
taken_kind Interrupts n earlier later = kind.IrqTaken n earlier later
taken_kind Banks n earlier later = kind.BankTaken n earlier later

abbrev pub exhausted_kind : Counted → ℕ → Kind
exhausted_kind Interrupts n = kind.IrqExhausted n
exhausted_kind Banks n = kind.BankExhausted n

-- a stated number passes 31
abbrev pub number_faults : Counted → Fix → Option ℕ → List Fault
number_faults counted f None = []
number_faults counted f (Some n) = told (nat_lt 31 n) f.line (range_kind counted f.name n)

abbrev pub range_faults : Counted → Fix → List Fault
range_faults counted f = number_faults counted f f.number

-- two stated numbers are one
abbrev pub both_faults : Counted → Fix → Fix → Option ℕ → Option ℕ → List Fault
both_faults counted later earlier (Some n) (Some m) =
    told (n == m) later.line (taken_kind counted n earlier.name later.name)
both_faults counted later earlier (Some n) None = []
both_faults counted later earlier None m = []

abbrev pub taken_faults : Counted → Fix → Fix → List Fault
taken_faults counted later earlier = both_faults counted later earlier later.number earlier.number

-- a count as 32 bits tell it
abbrev pub shown_count : ℕ → ℕ
shown_count n = min n 4294967295

-- more than 32 are wished for: the lines of all wishes, of which that of the 33rd is told
abbrev pub surplus_faults : Counted → ℕ → Option ℕ → List Fault
surplus_faults counted n None = []
surplus_faults counted n (Some line) = told true line (exhausted_kind counted (shown_count n))

abbrev pub exhausted_faults : Counted → List ℕ → List Fault
exhausted_faults counted lines = surplus_faults counted (length lines) (slice_get lines 32)

-- the wish is for no module that has an event manager
abbrev pub event_faults : List (List ℕ) → Fix → List Fault
event_faults managers f = told (not (list_any (λ name. bytes_eq name f.name) managers)) f.line (kind.UnknownEvent f.name)

-- the wish is for no bank
abbrev pub bank_faults : List BankWish → Fix → List Fault
bank_faults banks f = told (not (list_any (λ bank. bytes_eq bank.name f.name) banks)) f.line (kind.UnknownBank f.name)

-- the bank has more words than its addresses
abbrev pub full_faults : BankWish → List Fault
full_faults bank = told (nat_lt 512 bank.words) bank.line (kind.BankFull bank.name bank.words)

-- the faults of interrupts: each over all wishes before the next
abbrev pub irq_faults : List (List ℕ) → List Fix → List Fault
irq_faults managers irqs =
    flat_map (event_faults managers) irqs
    ++ (flat_map (range_faults Interrupts) irqs
    ++ (each_pair (taken_faults Interrupts) [] irqs
    ++ exhausted_faults Interrupts (map (λ irq. irq.line) irqs)))

-- the faults of banks, in the same way
abbrev pub all_bank_faults : List Fix → List BankWish → List Fault
all_bank_faults fixes banks =
    flat_map (bank_faults banks) fixes
    ++ (flat_map (range_faults Banks) fixes
    ++ (each_pair (taken_faults Banks) [] fixes
    ++ (flat_map full_faults banks
    ++ exhausted_faults Banks (map (λ bank. bank.line) banks))))

-- the number that is stated for a name
abbrev pub number_of : List Fix → List ℕ → Option ℕ
number_of [] name = None
number_of (f ∷ fs) name = if bytes_eq f.name name then f.number else number_of fs name

-- the number is stated for one of them
abbrev pub IsStated : List (Option ℕ) → ℕ → Type 0
IsStated wished n = (k : ℕ) × (slice_get wished k ≡ Some (Some n))

-- the number is that of one of the first i
abbrev pub IsGiven : ℕ → List ℕ → ℕ → Type 0
IsGiven i numbers n = (k : ℕ) × (k < i) × (slice_get numbers k ≡ Some n)

-- stated numbers stand, all are at most 31 and distinct, and each of the others is the lowest that is neither
-- stated nor that of one before
pub record AreLeast (wished : List (Option ℕ)) (numbers : List ℕ) : Type 0 where
  pub many : length numbers ≡ length wished
  pub stand : (i n : ℕ) → slice_get wished i ≡ Some (Some n) → slice_get numbers i ≡ Some n
  pub within : (i n : ℕ) → slice_get numbers i ≡ Some n → n ≤ 31
  pub distinct : (i j n : ℕ) → slice_get numbers i ≡ Some n → slice_get numbers j ≡ Some n → i ≡ j
  pub lowest : (i n p : ℕ) → slice_get wished i ≡ Some None → slice_get numbers i ≡ Some n → p < n →
      IsStated wished p ⊎ IsGiven i numbers p

-- the names with their least numbers, in the order of the wishes
pub record AreNumbered (names : List (List ℕ)) (wished : List (Option ℕ)) (given : List Numbered) : Type 0 where
  pub named : map (λ x. x.name) given ≡ names
  pub least : AreLeast wished (map (λ x. x.number) given)

-- the stated numbers can stand: each is at most 31, none is stated twice, and there are no more than 32 wishes
pub record CanStand (wished : List (Option ℕ)) : Type 0 where
  pub few : length wished ≤ 32
  pub small : (i n : ℕ) → slice_get wished i ≡ Some (Some n) → n ≤ 31
  pub once : (i j n : ℕ) → slice_get wished i ≡ Some (Some n) → slice_get wished j ≡ Some (Some n) → i ≡ j

-- the first wishes have got these numbers
pub record IsPart (wished : List (Option ℕ)) (numbers : List ℕ) : Type 0 where
  pub few : length numbers ≤ length wished
  pub stand : (i n : ℕ) → i < length numbers → slice_get wished i ≡ Some (Some n) → slice_get numbers i ≡ Some n
  pub within : (i n : ℕ) → slice_get numbers i ≡ Some n → n ≤ 31
  pub distinct : (i j n : ℕ) → slice_get numbers i ≡ Some n → slice_get numbers j ≡ Some n → i ≡ j
  pub apart : (i j n : ℕ) → slice_get numbers i ≡ Some n → slice_get wished j ≡ Some (Some n) → i ≡ j
  pub lowest : (i n p : ℕ) → slice_get wished i ≡ Some None → slice_get numbers i ≡ Some n → p < n →
      IsStated wished p ⊎ IsGiven i numbers p

-- the number is stated, or that of a wish so far
abbrev pub IsUsed : List (Option ℕ) → List ℕ → ℕ → Type 0
IsUsed wished numbers n = IsStated wished n ⊎ IsGiven (length numbers) numbers n

-- the lowest number that isn't used
pub record IsLowestFree (wished : List (Option ℕ)) (numbers : List ℕ) (n : ℕ) : Type 0 where
  pub within : n ≤ 31
  pub free : IsUsed wished numbers n → ⊥
  pub lowest : (p : ℕ) → p < n → IsUsed wished numbers p

-- no two banks have one name
abbrev pub AreDistinct : List BankWish → Type 0
AreDistinct bs = (i j : ℕ) (a b : BankWish) → slice_get bs i ≡ Some a → slice_get bs j ≡ Some b → a.name ≡ b.name → i ≡ j
