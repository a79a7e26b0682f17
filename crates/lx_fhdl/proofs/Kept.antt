-- The test of what a design keeps: where it is true, the design keeps it.
use Rattle.std.proofs.Common.{◌≡◌, ℕ, pos, ◌+◌, ◌-◌, ◌/◌, ◌^◌, ◌%◌, ◌<◌, ◌≤◌, Bool, true, false, ◌&&◌, ◌||◌, List, [], ◌∷◌, Option, Some, None, length, slice_get, nat_lt, nat_le, nat_eq, refl, ap, subst, ◌∙◌, arith, inl, inr, zero, suc}
use Rattle.std.specs.Prelude.{IfSome, is_none, IsSomeAnd}
use Rattle.std.specs.List.{list_all}
use Rattle.std.proofs.Math.Nat.{pow-le-pow_right}
use Rattle.std.proofs.lemmas.Bool.{ltb-true, leb-true, eqb-true, and_parts, or_cases, not-true, cases_lt}
use Rattle.std.proofs.lemmas.Bool.Decides.{Decides-int_eq}
use Rattle.std.proofs.lemmas.Slice.Eq.{bytes_eq-Decides}
use Rattle.lx_num.specs.declared.Shape.{Shape}
use Rattle.lx_num.specs.Ints.{shape, unsigned, wrapped}
use Rattle.lx_num.specs.Fewest.{IsFewestBits}
use Rattle.lx_num.proofs.Ranges.{fits_pos, pos_fits, same_fits}
use Rattle.lx_arena.proofs.Places.{all_at-is, all_at-lower, node_there}
use Rattle.lx_circuit.specs.Shapes.{Shapes, fault_of}
use Rattle.lx_circuit.specs.Statements.{target_bits}
use Rattle.lx_circuit.specs.Circuit.{Role, Input, Comb, Sync, Read, Undriven, role}
use Rattle.lx_fhdl.specs.Below.{StmtId, expr_below, target_below, stmt_below}
use Rattle.lx_fhdl.specs.Nodes.{HasParts}
use Rattle.lx_fhdl.specs.Trees.{term_at}
use Rattle.lx_fhdl.specs.Stmts.{target_at}
use Rattle.lx_fhdl.specs.Designs.{block, shapes, circuit_of, memory_at}
use Rattle.lx_fhdl.specs.Keeping.{NamesThere, HasPlainIndex, TakesOperands, TargetStands, BranchesStand, StmtStands, ArenasKeep, ListStands, PartStands, IsSignal, IsUnsigned, IsMemory, IsAddress, WriterStands, HasDomain, IsPort, HasResetPath, IsReset, IsDomain, EachOf, Keeps, reset_name, is_clocked, block_depth}
use Rattle.lx_fhdl.specs.Kept.{has_width, names_there, has_plain_index, takes_operands, has_parts, target_stands, stmt_stands, expr_keeps, target_keeps, arenas_keep, list_stands, part_stands, is_signal, is_memory, is_there, is_unsigned, is_fewest, is_address, is_some_unsigned, writer_stands, has_domain, is_port, is_reset_path, has_reset_path, is_input, is_reset, is_domain, is_kept}
use Rattle.lx_fhdl.specs.declared.exprs.SigId.{SigId}
use Rattle.lx_fhdl.specs.declared.exprs.Expr.{Expr}
use Rattle.lx_fhdl.specs.declared.exprs.Expr.TheVariants.{Const, Sig, Unary, Binary, Mux, Cat, Pick, Replicate, Slice, Fetch}
use Rattle.lx_fhdl.specs.declared.stmts.Target.{Target}
use Rattle.lx_fhdl.specs.declared.stmts.Target.TheVariants as target
use Rattle.lx_fhdl.specs.declared.stmts.Branch.{Branch}
use Rattle.lx_fhdl.specs.declared.stmts.Stmt.{Stmt}
use Rattle.lx_fhdl.specs.declared.stmts.Stmt.TheVariants as stmt
use Rattle.lx_fhdl.specs.declared.design.Signal.{Signal}
use Rattle.lx_fhdl.specs.declared.design.Memory.{Memory}
use Rattle.lx_fhdl.specs.declared.design.Port.{Port}
use Rattle.lx_fhdl.specs.declared.design.Domain.{Domain}
use Rattle.lx_fhdl.specs.declared.design.SyncPart.{SyncPart}
use Rattle.lx_fhdl.specs.declared.design.Design.{Design}

-- a test of each item
pub each_of : {T : Type 0} (P : T → Type 0) (test : T → Bool) (xs : List T) → ((x : T) → test x ≡ true → P x) → list_all test xs ≡ true → EachOf P xs
each_of P test [] f h = tt
each_of P test (x ∷ xs) f h = let p = and_parts _ _ h in (f x p.0, each_of P test xs f p.1)

each_at : {T : Type 0} (P : T → Type 0) (test : T → Bool) (xs : List T) → ((x : T) → test x ≡ true → P x) → list_all test xs ≡ true → (k : ℕ) (x : T) → slice_get xs k ≡ Some x → P x
each_at P test [] f h k x e = absurd (cc)
each_at P test (y ∷ ys) f h zero x e = let p : y ≡ x = cc in subst P p (f y (and_parts _ _ h).0)
each_at P test (y ∷ ys) f h (suc k) x e = each_at P test ys f (and_parts _ _ h).1 k x e

is_none_none : {T : Type 0} (o : Option T) → is_none o ≡ true → o ≡ None
is_none_none None h = refl
is_none_none (Some x) h = absurd (cc)

-- ---- arenas

has_width-is : (width : ℕ) (o : Option Memory) → has_width width o ≡ true → IsSomeAnd o (λ m. width ≡ m.width)
has_width-is width (Some m) h = eqb-true width m.width h
has_width-is width None h = absurd (cc)

pub names_there-is : (n : ℕ) (ms : List Memory) (x : Expr) → names_there n ms x ≡ true → NamesThere n ms x
names_there-is n ms (Const value bits signed) h = tt
names_there-is n ms (Sig x) h = ltb-true x.0 n h
names_there-is n ms (Unary op of) h = tt
names_there-is n ms (Binary op left right) h = tt
names_there-is n ms (Mux cond then_ else_) h = tt
names_there-is n ms (Cat parts) h = tt
names_there-is n ms (Pick items index) h = tt
names_there-is n ms (Replicate of count) h = tt
names_there-is n ms (Slice of low high) h = tt
names_there-is n ms (Fetch memory width at) h = has_width-is width (slice_get ms memory) h

pub has_plain_index-is : (s : Shapes) (xs : List Expr) (x : Expr) → has_plain_index s xs x ≡ true → HasPlainIndex s xs x
has_plain_index-is s xs (Const value bits signed) h = tt
has_plain_index-is s xs (Sig x) h = tt
has_plain_index-is s xs (Unary op of) h = tt
has_plain_index-is s xs (Binary op left right) h = tt
has_plain_index-is s xs (Mux cond then_ else_) h = tt
has_plain_index-is s xs (Cat parts) h = tt
has_plain_index-is s xs (Pick items index) h = tt
has_plain_index-is s xs (Replicate of count) h = tt
has_plain_index-is s xs (Slice of low high) h = tt
has_plain_index-is s xs (Fetch memory width at) h = not-true _ h

pub takes_operands-is : (x : Expr) → takes_operands x ≡ true → TakesOperands x
takes_operands-is (Const value bits signed) h = tt
takes_operands-is (Sig x) h = tt
takes_operands-is (Unary op of) h = h
takes_operands-is (Binary op left right) h = h
takes_operands-is (Mux cond then_ else_) h = tt
takes_operands-is (Cat parts) h = tt
takes_operands-is (Pick items index) h = tt
takes_operands-is (Replicate of count) h = tt
takes_operands-is (Slice of low high) h = tt
takes_operands-is (Fetch memory width at) h = tt

pub has_parts-is : (x : Expr) → has_parts x ≡ true → HasParts x
has_parts-is (Const value bits signed) h = tt
has_parts-is (Sig x) h = tt
has_parts-is (Unary op of) h = tt
has_parts-is (Binary op left right) h = tt
has_parts-is (Mux cond then_ else_) h = tt
has_parts-is (Cat parts) h = ltb-true 0 (length parts) h
has_parts-is (Pick items index) h = ltb-true 0 (length items) h
has_parts-is (Replicate of count) h = tt
has_parts-is (Slice of low high) h = tt
has_parts-is (Fetch memory width at) h = tt

pub target_stands-is : (s : Shapes) (n : ℕ) (xs : List Expr) (x : Target) → target_stands s n xs x ≡ true → TargetStands s n xs x
target_stands-is s n xs (target.Whole x) h = ltb-true x.0 n h
target_stands-is s n xs (target.Part x low len) h =
    let p = and_parts _ _ h in
    let q = and_parts _ _ p.1 in
    (ltb-true x.0 n p.0, leb-true 1 len q.0, leb-true (low + len) (s x.0).bits q.1)
target_stands-is s n xs (target.Cat parts) h = ltb-true 0 (length parts) h
target_stands-is s n xs (target.Pick items index) h =
    let p = and_parts _ _ h in
    let q = and_parts _ _ p.1 in
    (ltb-true 0 (length items) p.0, ltb-true index.place (length xs) q.0, not-true _ q.1)

branches_stand-is : (n : ℕ) (bs : List Branch) → list_all (λ (b : Branch). nat_lt b.cond.place n) bs ≡ true → BranchesStand n bs
branches_stand-is n [] h = tt
branches_stand-is n (b ∷ bs) h = let p = and_parts _ _ h in (ltb-true b.cond.place n p.0, branches_stand-is n bs p.1)

pub stmt_stands-is : (n m : ℕ) (x : Stmt) → stmt_stands n m x ≡ true → StmtStands n m x
stmt_stands-is n m (stmt.Assign target value line) h = let p = and_parts _ _ h in (ltb-true target.place m p.0, ltb-true value.place n p.1)
stmt_stands-is n m (stmt.If branches rest line) h = branches_stand-is n branches h
stmt_stands-is n m (stmt.Case on arms rest line) h = ltb-true on.place n h

-- what the test says of the expression x at the place k
record ExprKept (s : Shapes) (n : ℕ) (ms : List Memory) (xs : List Expr) (x : Expr) (k : ℕ) : Type 0 where
  shaped : fault_of s (term_at xs k) ≡ None
  operands : TakesOperands x
  parts : HasParts x
  named : NamesThere n ms x
  index : HasPlainIndex s xs x

expr_keeps-is : (s : Shapes) (n : ℕ) (ms : List Memory) (xs : List Expr) (x : Expr) (k : ℕ) → expr_keeps s n ms xs x k ≡ true → ExprKept s n ms xs x k
expr_keeps-is s n ms xs x k h =
    let p = and_parts (is_none (fault_of s (term_at xs k))) (takes_operands x && (has_parts x && (names_there n ms x && has_plain_index s xs x))) h in
    let q = and_parts (takes_operands x) (has_parts x && (names_there n ms x && has_plain_index s xs x)) p.1 in
    let r = and_parts (has_parts x) (names_there n ms x && has_plain_index s xs x) q.1 in
    let z = and_parts (names_there n ms x) (has_plain_index s xs x) r.1 in
    record {
      shaped = is_none_none (fault_of s (term_at xs k)) p.0;
      operands = takes_operands-is x q.0;
      parts = has_parts-is x r.0;
      named = names_there-is n ms x z.0;
      index = has_plain_index-is s xs x z.1;
    }

arenas_keep-is : (s : Shapes) (n : ℕ) (ms : List Memory) (xs : List Expr) (ts : List Target) (ss : List Stmt) → arenas_keep s n ms xs ts ss ≡ true → ArenasKeep s n ms xs ts ss
arenas_keep-is s n ms xs ts ss h =
    let p = and_parts _ _ h in
    let low = and_parts _ _ p.0 in
    let lows = and_parts _ _ low.1 in
    let q = and_parts _ _ p.1 in
    let r = and_parts _ _ q.1 in
    let expr : (k : ℕ) (x : Expr) → slice_get xs k ≡ Some x → ExprKept s n ms xs x k = λ k x e. expr_keeps-is s n ms xs x k (all_at-is (expr_keeps s n ms xs) xs q.0 k x e) in
    let kept : (k : ℕ) (x : Target) → slice_get ts k ≡ Some x → target_keeps s n xs ts x k ≡ true = all_at-is (target_keeps s n xs ts) ts r.0 in
    record {
      exprs_lower = all_at-lower expr_below xs low.0;
      targets_lower = all_at-lower target_below ts lows.0;
      stmts_lower = all_at-lower stmt_below ss lows.1;
      shaped = λ k l. let (x, e) = node_there xs k l in (expr k x e).shaped;
      operands = λ k x e. (expr k x e).operands;
      parts = λ k x e. (expr k x e).parts;
      named = λ k x e. (expr k x e).named;
      indices = λ k x e. (expr k x e).index;
      targets = λ k x e. target_stands-is s n xs x (and_parts _ _ (kept k x e)).0;
      target_bits = λ k l. let (x, e) = node_there ts k l in leb-true (target_bits s (target_at (term_at xs) ts k)) 127 (and_parts _ _ (kept k x e)).1;
      stmts = each_at (StmtStands (length xs) (length ts)) (stmt_stands (length xs) (length ts)) ss (stmt_stands-is (length xs) (length ts)) r.1;
    }

-- ---- lists of statements

list_stands-is : (d : Design) (ids : List StmtId) → list_stands d ids ≡ true → ListStands d ids
list_stands-is d ids h = let p = and_parts _ _ h in record { there = p.0; depth = leb-true (block_depth (block d ids)) 128 p.1 }

part_stands-is : (d : Design) (x : SyncPart) → part_stands d x ≡ true → PartStands d x
part_stands-is d x h = let p = and_parts _ _ h in record { domain = ltb-true x.domain (length d.domains) p.0; stmts = list_stands-is d x.stmts p.1 }

-- ---- signals and memories

pub is_signal-is : (x : Signal) → is_signal x ≡ true → IsSignal x
is_signal-is x h =
    let p = and_parts _ _ h in
    let bits = and_parts _ _ p.0 in
    let q = and_parts _ _ p.1 in
    let some = leb-true 1 x.shape.bits bits.0 in
    record {
      some = some;
      most = leb-true x.shape.bits 64 bits.1;
      reset = same_fits x.shape.bits x.shape.signed x.reset some ((Decides-int_eq (wrapped x.shape x.reset) x.reset).0 q.0);
      path = q.1;
    }

pub is_memory-is : (m : Memory) → is_memory m ≡ true → IsMemory m
is_memory-is m h =
    let p = and_parts _ _ h in
    let sizes = and_parts _ _ p.0 in
    let width = and_parts _ _ sizes.0 in
    let depth = and_parts _ _ sizes.1 in
    let q = and_parts _ _ p.1 in
    let r = and_parts _ _ q.1 in
    record {
      width_some = leb-true 1 m.width width.0;
      width_most = leb-true m.width 64 width.1;
      depth_some = leb-true 1 m.depth depth.0;
      depth_most = leb-true m.depth 65536 depth.1;
      contents = each_of (λ z. z < 2 ^ m.width) (λ z. nat_lt z (2 ^ m.width)) m.init (λ z e. ltb-true z (2 ^ m.width) e) q.0;
      contents_most = leb-true (length m.init) m.depth r.0;
      path = r.1;
    }

-- ---- ports

pub shape_is : (a : Shape) (n : ℕ) → a.bits ≡ n → a.signed ≡ false → a ≡ unsigned n
shape_is a n e f = ap (λ (m : ℕ). shape m a.signed) e ∙ ap (λ (s : Bool). shape n s) f

pub is_unsigned-is : (d : Design) (n : ℕ) (x : SigId) → is_unsigned d n x ≡ true → IsUnsigned d n x
is_unsigned-is d n x h =
    let p = and_parts _ _ h in
    let q = and_parts _ _ p.1 in
    record { there = ltb-true x.0 (length d.signals) p.0; shape = shape_is (shapes d x.0) n (eqb-true (shapes d x.0).bits n q.0) (not-true _ q.1) }

not_fewer : (a n k : ℕ) → (nat_eq n 1 || nat_le (2 ^ (n - 1)) a) ≡ true → 1 ≤ k → a < 2 ^ k → n ≤ k
not_fewer a n k h some l =
    elim (or_cases (nat_eq n 1) (nat_le (2 ^ (n - 1)) a) h) [
      | inl e ↦ omega (arith, eqb-true n 1 e, some)
      | inr e ↦
          elim (cases_lt k n) [
            | inl less ↦
                let two : 0 < 2 = omega arith in
                let up : k ≤ n - 1 = omega arith in
                absurd (omega (arith, leb-true (2 ^ (n - 1)) a e, pow-le-pow_right two up))
            | inr more ↦ more
          ]
    ]

pub is_fewest-is : (a n : ℕ) → is_fewest a n ≡ true → IsFewestBits (pos a) n
is_fewest-is a n h =
    let p = and_parts _ _ h in
    let q = and_parts _ _ p.1 in
    record {
      some = leb-true 1 n p.0;
      enough = fits_pos n a (ltb-true a (2 ^ n) q.0);
      fewest = λ k some fits. not_fewer a n k q.1 some (pos_fits k a fits);
    }

pub is_address-is : (d : Design) (depth : ℕ) (x : SigId) → is_address d depth x ≡ true → IsAddress d depth x
is_address-is d depth x h =
    let p = and_parts _ _ h in
    let q = and_parts _ _ p.1 in
    record { there = ltb-true x.0 (length d.signals) p.0; plain = not-true _ q.0; fewest = is_fewest-is (depth - 1) (shapes d x.0).bits q.1 }

is_some_unsigned-is : (d : Design) (n : ℕ) (o : Option SigId) → is_some_unsigned d n o ≡ true → IfSome o (IsUnsigned d n)
is_some_unsigned-is d n None h = tt
is_some_unsigned-is d n (Some x) h = is_unsigned-is d n x h

writer_stands-is : (d : Design) (width part : ℕ) (o p : Option SigId) → writer_stands d width part o p ≡ true → WriterStands d width part o p
writer_stands-is d width part (Some x) (Some y) h = let q = and_parts _ _ h in (is_unsigned-is d width x q.0, is_unsigned-is d (width / part) y q.1)
writer_stands-is d width part None None h = tt
writer_stands-is d width part (Some x) None h = absurd (cc)
writer_stands-is d width part None (Some y) h = absurd (cc)

has_domain-is : (n : ℕ) (b : Bool) (o : Option ℕ) → has_domain n b o ≡ true → HasDomain n b o
has_domain-is n true (Some k) h = ltb-true k n h
has_domain-is n true None h = absurd (cc)
has_domain-is n false o h = is_none_none o h

is_port-is : (d : Design) (q : Port) → is_port d q ≡ true → IsPort d q
is_port-is d q h =
    let m = memory_at d q.memory in
    let p = and_parts _ _ h in
    let first = and_parts _ _ p.0 in
    let second = and_parts _ _ p.1 in
    let third = and_parts _ _ second.1 in
    let fourth = and_parts _ _ third.1 in
    let last = and_parts _ _ fourth.1 in
    record {
      memory = ltb-true q.memory (length d.memories) first.0;
      domain = has_domain-is (length d.domains) (is_clocked q.mode q.we) q.domain first.1;
      adr = is_address-is d m.depth q.adr second.0;
      dat_r = is_some_unsigned-is d m.width q.dat_r third.0;
      writer = writer_stands-is d m.width q.part q.dat_w q.we fourth.0;
      part_some = leb-true 1 q.part last.0;
      parts = eqb-true (m.width % q.part) 0 last.1;
    }

-- ---- domains

reset_path-is : (name : List ℕ) (path : List (List ℕ)) → is_reset_path name path ≡ true → path ≡ reset_name name ∷ []
reset_path-is name [] h = absurd (cc)
reset_path-is name (p ∷ []) h = ap (λ (q : List ℕ). q ∷ []) ((bytes_eq-Decides p (reset_name name)).0 h)
reset_path-is name (p ∷ q ∷ ps) h = absurd (cc)

has_reset_path-is : (x : Domain) (o : Option Signal) → has_reset_path x o ≡ true → HasResetPath x o
has_reset_path-is x None h = absurd (cc)
has_reset_path-is x (Some s) h = reset_path-is x.name s.path h

is_input-is : (r : Role) → is_input r ≡ true → r ≡ Input
is_input-is Input h = refl
is_input-is Comb h = absurd (cc)
is_input-is (Sync k) h = absurd (cc)
is_input-is (Read j) h = absurd (cc)
is_input-is Undriven h = absurd (cc)

is_reset-is : (d : Design) (x : Domain) (o : Option SigId) → is_reset d x o ≡ true → IfSome o (IsReset d x)
is_reset-is d x None h = tt
is_reset-is d x (Some r) h =
    let p = and_parts _ _ h in
    record { path = has_reset_path-is x (slice_get d.signals r.0) p.0; input = is_input-is (role (circuit_of d) r.0) p.1 }

is_domain-is : (d : Design) (x : Domain) → is_domain d x ≡ true → IsDomain d x
is_domain-is d x h = let p = and_parts _ _ h in record { name = p.0; reset = is_reset-is d x x.reset p.1 }

-- ---- the whole

-- A design that passes the test keeps what designs keep.
pub is_kept-is : (d : Design) → is_kept d ≡ true → Keeps d
unfolding is_kept
is_kept-is d h =
    let p = and_parts _ _ h in
    let q = and_parts _ _ p.1 in
    let parts = and_parts _ _ q.0 in
    let both = and_parts _ _ parts.1 in
    let r = and_parts _ _ q.1 in
    let lists = and_parts _ _ r.0 in
    let last = and_parts _ _ r.1 in
    let domains = and_parts _ _ last.0 in
    let count = and_parts _ _ domains.1 in
    record {
      arenas = arenas_keep-is (shapes d) (length d.signals) d.memories d.exprs d.targets d.stmts p.0;
      signals = each_of IsSignal is_signal d.signals is_signal-is parts.0;
      memories = each_of IsMemory is_memory d.memories is_memory-is both.0;
      ports = each_of (IsPort d) (is_port d) d.ports (is_port-is d) both.1;
      comb = list_stands-is d d.comb lists.0;
      sync = each_of (PartStands d) (part_stands d) d.sync (part_stands-is d) lists.1;
      domains = each_of (IsDomain d) (is_domain d) d.domains (is_domain-is d) domains.0;
      domains_most = leb-true (length d.domains) 16 count.0;
      domains_distinct = count.1;
      ios = each_of (λ (x : SigId). x.0 < length d.signals) (is_there d) d.ios (λ x e. ltb-true x.0 (length d.signals) e) last.1;
    }
