-- Numbers of bits.
use Rattle.std.proofs.Common.{◌≡◌, ℕ, ◌-◌, ◌^◌, ◌<◌, ◌≤◌, Bool, true, false, ◌&&◌, ◌||◌, nat_le, nat_lt, nat_eq, refl, arith}
use Rattle.std.specs.Prelude.{Some, None, ◌%◌, not}
use Rattle.std.proofs.Math.Nat.{pow-le-pow_right}
use Rattle.std.proofs.lemmas.Bool.{and_left, and_right, le-leb, lt-leb, ne_eqb, or_from}
use Rattle.lx_fhdl.specs.Kept.{has_domain, is_address, is_fewest, is_some_unsigned, writer_stands}
use Rattle.lx_fhdl.specs.declared.design.Design.{Design}
use Rattle.lx_fhdl.specs.declared.design.Port.{Port}
use Rattle.lx_kept.specs.Given.{has_signals}

pub fewest_none : (a n : ℕ) → n < 1 → is_fewest a n ≡ false
fewest_none a n h = and_left (nat_le 1 n) _ (lt-leb 1 n h)

-- more than 32 bits
pub fewest_far : (a n : ℕ) → a < 2 ^ 32 → 32 < n → is_fewest a n ≡ false
fewest_far a n h far =
    let two : 0 < 2 = omega arith in
    let most : 32 ≤ n - 1 = omega arith in
    let many : n ≡ 1 → ⊥ = λ e. omega (arith, e) in
    let less : a < 2 ^ (n - 1) = omega (arith, pow-le-pow_right two most) in
    and_right (nat_le 1 n) _ (and_right (nat_lt a (2 ^ n)) (nat_eq n 1 || nat_le (2 ^ (n - 1)) a) (or_from (nat_eq n 1) (nat_le (2 ^ (n - 1)) a) (ne_eqb n 1 many) (lt-leb (2 ^ (n - 1)) a less)))

pub fewest_near : (a n : ℕ) → 1 ≤ n → is_fewest a n ≡ (nat_lt a (2 ^ n) && (nat_eq n 1 || nat_le (2 ^ (n - 1)) a))
fewest_near a n h = rw (le-leb 1 n h) refl

-- ---- ports

pub domain_some : (n : ℕ) (b : Bool) (k : ℕ) → has_domain n b (Some k) ≡ (b && nat_lt k n)
domain_some n true k = refl
domain_some n false k = refl

pub domain_none : (n : ℕ) (b : Bool) → has_domain n b None ≡ not b
domain_none n true = refl
domain_none n false = refl

-- parts of no bits
pub no_parts : (d : Design) (width depth : ℕ) (q : Port) → q.part < 1 → has_signals d width depth q ≡ false
no_parts d width depth q h =
    and_right (is_address d depth q.adr) _ (and_right (is_some_unsigned d width q.dat_r) _ (and_right (writer_stands d width q.part q.dat_w q.we) _ (and_left (nat_le 1 q.part) _ (lt-leb 1 q.part h))))

pub some_parts : (d : Design) (width depth : ℕ) (q : Port) → 1 ≤ q.part
    → has_signals d width depth q ≡ (is_address d depth q.adr && (is_some_unsigned d width q.dat_r && (writer_stands d width q.part q.dat_w q.we && nat_eq (width % q.part) 0)))
some_parts d width depth q h = rw (le-leb 1 q.part h) refl
