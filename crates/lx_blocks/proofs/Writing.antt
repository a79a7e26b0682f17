-- What the ports of memories write.
use Rattle.std.proofs.Common.{◌≡◌, ℕ, ◌+◌, ◌<◌, ◌≤◌, ◌^◌, Bool, true, false, ◌&&◌, cond, append_assoc, nat_lt, List, [], ◌∷◌, ◌++◌, length, map, flat_map, take, nat_eq, nat_le, lt-ltb, refl, sym, ap, subst, ◌∙◌, arith}
use Rattle.std.specs.Prelude.{Result, IfOk, Option, Some, None, is_some, slice_get, IsTrue, IsSomeAnd}
use Rattle.std.specs.List.{range_with_len}
use Rattle.std.proofs.lemmas.Bool.{and_from, and_parts}
use Rattle.std.proofs.lemmas.List.{append-nil, take_more, take_all}
use Rattle.std.proofs.lemmas.List.FromFn.{map-range_with_len_more}
use Rattle.std.proofs.lemmas.Grind.{flat_map-append}
use Rattle.lx_vtext.specs.Tree.{Name}
use Rattle.lx_vtree.specs.declared.nodes.VTarget.{VTarget}
use Rattle.lx_vtree.specs.Below.{Ref}
use Rattle.lx_vtree.specs.Growth.{PutExpr, PutStmt, AddedStmt}
use Rattle.lx_vtree.specs.NodeLists.{NodeLists, expr_tree, stmt_tree}
use Rattle.lx_vtree.specs.Stmts.{StmtRef, is_target_placed, are_stmts_below}
use Rattle.lx_vtree.proofs.Grown.{by_exprs, expr_kept, grows_same, grows_then}
use Rattle.lx_fhdl.specs.Designs.{circuit_of, memory_at, port_of, shapes, writer_of}
use Rattle.lx_fhdl.specs.Keeping.{EachOf, HasDomain, IsPort, WriterStands, is_clocked}
use Rattle.lx_fhdl.specs.declared.exprs.SigId.{SigId}
use Rattle.lx_fhdl.specs.declared.design.Memory.{Memory}
use Rattle.lx_fhdl.specs.declared.design.Port.{Port}
use Rattle.lx_fhdl.specs.declared.design.PortMode.{PortMode}
use Rattle.lx_fhdl.specs.declared.design.Design.{Design}
use Rattle.lx_emission.specs.Memories.{WriteNames, block_of, clocked, field_text, guarded, memory_always, memory_body, parts_text, port_text, word_target, writes_memory, writes_text, writing_domain}
use Rattle.lx_emission.specs.Naming.{clock}
use Rattle.lx_blocks.specs.Puts.{IsWordTarget, PutBlock, PutStmts, trees_of}
use Rattle.lx_sheet.specs.Plans.{Plan, memory_in, net_in}
use Rattle.lx_blocks.specs.Writes.{bits_in, bound_text, depth_in, names_in, bounded_in, memory_always_in, memory_body_in, part_in, parts_in, port_in, write_in, writes_in}
use Rattle.lx_blocks.specs.declared.write.Write.{Write}
use Rattle.lx_blocks.proofs.Grown.{before_end, stmts_more, when_put}
use Rattle.std.proofs.lemmas.Option.{slice_get_within, get_or_from_slice_get}
use Rattle.lx_sheet.proofs.Remembered.{memory_is}
use Rattle.lx_blocks.proofs.Resets.{no_else, stmts_block}
use Rattle.lx_circuit.specs.Memories as memory
use Rattle.lx_vtext.specs.Tree as tree
use Rattle.lx_vtree.specs.declared.nodes.VStmt.TheVariants as node
use Rattle.lx_vtree.specs.declared.nodes.VTarget.TheVariants as target
use Rattle.lx_fhdl.specs.declared.design.PortMode.TheVariants as mode

-- ---- targets

pub whole_word : (n : Name) (index : Ref) (u : tree.VExpr → tree.VTarget) → ((e : tree.VExpr) → tree.WholeWord n e ≡ u e) → IsWordTarget (target.WholeWord n index) index u
whole_word n index u e = record { tree = λ f. e (f index.place); placed = λ k l. lt-ltb index.place k l }

pub part_word : (n : Name) (index : Ref) (hi lo : ℕ) (u : tree.VExpr → tree.VTarget) → ((e : tree.VExpr) → tree.PartWord n e hi lo ≡ u e) → IsWordTarget (target.PartWord n index hi lo) index u
part_word n index hi lo u e = record { tree = λ f. e (f index.place); placed = λ k l. lt-ltb index.place k l }

-- ---- the assignment of a part

word_named : (m a d : Name) (n : WriteNames) (width low part : ℕ) → m ≡ n.memory → a ≡ n.adr → d ≡ n.dat_w
    → tree.Assign (word_target m (tree.Net a) width low part) false (field_text d width low part) ≡ tree.Assign (word_target n.memory (tree.Net n.adr) width low part) false (field_text n.dat_w width low part)
word_named m a d n width low part e f g =
    ap (λ (x : Name). tree.Assign (word_target x (tree.Net a) width low part) false (field_text d width low part)) e
    ∙ ap (λ (x : Name). tree.Assign (word_target n.memory (tree.Net x) width low part) false (field_text d width low part)) f
    ∙ ap (λ (x : Name). tree.Assign (word_target n.memory (tree.Net n.adr) width low part) false (field_text x width low part)) g

word_put : (n0 n1 n2 n3 : NodeLists) (index v : Ref) (t : VTarget) (a value : tree.VExpr) (u : tree.VExpr → tree.VTarget) (i : ℕ)
    → PutExpr n0 n1 index.place a → IsWordTarget t index u → PutExpr n1 n2 v.place value → AddedStmt n2 n3 i (node.Assign t false v) → PutStmt n0 n3 i (tree.Assign (u a) false value)
word_put n0 n1 n2 n3 index v t a value u i put is more b =
    let stays = expr_kept n0 n1 n2 index.place a put more.grows in
    record {
      grows = grows_then n0 n2 n3 (by_exprs n0 n2 stays.grows) b.grows;
      within = b.within;
      is =
          b.is
          ∙ ap (λ (x : tree.VTarget). tree.Assign x false (expr_tree n2 v.place)) (is.tree (expr_tree n2))
          ∙ ap (λ (x : tree.VExpr). tree.Assign (u x) false (expr_tree n2 v.place)) stays.is
          ∙ ap (tree.Assign (u a) false) more.is;
    }

pub word_stmt : (n0 n1 n2 n3 : NodeLists) (index v : Ref) (t : VTarget) (m a d : Name) (n : WriteNames) (width low part i : ℕ) → m ≡ n.memory → a ≡ n.adr → d ≡ n.dat_w
    → PutExpr n0 n1 index.place (tree.Net a) → IsWordTarget t index (λ e. word_target m e width low part) → PutExpr n1 n2 v.place (field_text d width low part) → AddedStmt n2 n3 i (node.Assign t false v)
    → PutStmt n0 n3 i (tree.Assign (word_target n.memory (tree.Net n.adr) width low part) false (field_text n.dat_w width low part))
word_stmt n0 n1 n2 n3 index v t m a d n width low part i e f g put is more b =
    subst (λ (x : tree.VStmt). PutStmt n0 n3 i x) (word_named m a d n width low part e f g)
    (word_put n0 n1 n2 n3 index v t (tree.Net a) (field_text d width low part) (λ x. word_target m x width low part) i put is more b)

pub word_placed : (n0 n1 n2 : NodeLists) (index v : Ref) (t : VTarget) (a b : tree.VExpr) (u : tree.VExpr → tree.VTarget) → PutExpr n0 n1 index.place a → IsWordTarget t index u → PutExpr n1 n2 v.place b → IsTrue (is_target_placed (length n2.exprs) t && nat_lt v.place (length n2.exprs))
word_placed n0 n1 n2 index v t a b u p is q =
    and_from (is_target_placed (length n2.exprs) t) (nat_lt v.place (length n2.exprs)) (is.placed (length n2.exprs) (omega (arith, p.within, q.grows.longer))) (lt-ltb v.place (length n2.exprs) q.within)

-- ---- parts

pub parts_next : (w : Write) (i : ℕ) → map (part_in w) (range_with_len 0 (i + 1)) ≡ map (part_in w) (range_with_len 0 i) ++ part_in w i ∷ []
parts_next w i = map-range_with_len_more (part_in w) 0 i i (omega arith)

pub stmts_none : (n : NodeLists) (list : List StmtRef) → are_stmts_below list (length n.stmts) ≡ true → PutStmts n n list list []
stmts_none n list h = record { grows = grows_same n; within = h; trees = sym (append-nil (trees_of (stmt_tree n) list)) }

-- the same texts
pub stmts_is : (n0 n1 : NodeLists) (before after : List StmtRef) (ts us : List tree.VStmt) → ts ≡ us → PutStmts n0 n1 before after ts → PutStmts n0 n1 before after us
stmts_is n0 n1 before after ts us e h = subst (λ (vs : List tree.VStmt). PutStmts n0 n1 before after vs) e h

pub stmts_as : {E : Type 0} (r : Result (List StmtRef) E) (n0 n1 : NodeLists) (before : List StmtRef) (ts us : List tree.VStmt) → ts ≡ us → IfOk r (λ after. PutStmts n0 n1 before after ts)
    → IfOk r (λ after. PutStmts n0 n1 before after us)
stmts_as r n0 n1 before ts us e h = subst (λ (vs : List tree.VStmt). IfOk r (λ after. PutStmts n0 n1 before after vs)) e h

-- one statement at the end of a list
pub one_stmt : (n0 n1 : NodeLists) (list : List StmtRef) (i : StmtRef) (t : tree.VStmt) → are_stmts_below list (length n0.stmts) ≡ true → PutStmt n0 n1 i.place t → PutStmts n0 n1 list (list ++ i ∷ []) (t ∷ [])
one_stmt n0 n1 list i t h q = stmts_more n0 n0 n1 list list [] i t (stmts_none n0 list h) q

pub ends_block : (ts : List tree.VStmt) → before_end ts tree.EndBlock ≡ block_of ts
ends_block [] = refl
ends_block (t ∷ ts) = ap (tree.InBlock t) (ends_block ts)

-- ---- an address that may lie at or past the depth

pub bounded_put : (n0 n1 n2 n3 : NodeLists) (before so : List StmtRef) (c : Ref) (i : ℕ) (w : Write) (n : Name) (bits depth : ℕ) → before ≡ [] → PutStmts n0 n1 before so (parts_in w)
    → n ≡ (names_in w).adr → bits ≡ bits_in w → PutExpr n1 n2 c.place (bound_text n bits depth) → AddedStmt n2 n3 i (node.When c so None) → PutStmt n0 n3 i (bounded_in w depth)
bounded_put n0 n1 n2 n3 before so c i w n bits depth none q e f put a =
    let body = subst (λ (b : tree.VBlock). PutBlock n0 n1 so b) (ends_block (parts_in w)) (stmts_block n0 n1 before so (parts_in w) none q) in
    let named : bound_text n bits depth ≡ bound_text (names_in w).adr (bits_in w) depth =
    ap (λ (m : Name). bound_text m bits depth) e ∙ ap (λ b. bound_text (names_in w).adr b depth) f in
    let condition = subst (λ (t : tree.VExpr). PutExpr n1 n2 c.place t) named put in
    when_put n0 n1 n1 n2 n3 so None c (block_of (parts_in w)) tree.NoElse (bound_text (names_in w).adr (bits_in w) depth) i body (no_else n1) condition a

depth_is : (w : Write) (m : Memory) → slice_get w.memory.sheet.now.design.memories w.memory.place ≡ Some m → depth_in w ≡ m.depth
depth_is w m e = ap (λ (x : memory.Memory). x.depth) (memory_is w.memory.sheet.now.design w.memory.place m e)

guarded_by : (adr : Name) (bits depth : ℕ) (ss : List tree.VStmt) (b : Bool) → nat_le (2 ^ bits) depth ≡ b → guarded adr bits depth ss ≡ cond b ss (tree.When (bound_text adr bits depth) (block_of ss) tree.NoElse ∷ [])
guarded_by adr bits depth ss b e = ap (λ c. cond c ss (tree.When (bound_text adr bits depth) (block_of ss) tree.NoElse ∷ [])) e

pub write_full : (w : Write) (m : Memory) (bits : ℕ) → slice_get w.memory.sheet.now.design.memories w.memory.place ≡ Some m → bits ≡ bits_in w → nat_le (2 ^ bits) m.depth ≡ true → parts_in w ≡ write_in w
write_full w m bits e f h =
    sym (guarded_by (names_in w).adr (bits_in w) (depth_in w) (parts_in w) true (ap (nat_le (2 ^ bits_in w)) (depth_is w m e) ∙ ap (λ b. nat_le (2 ^ b) m.depth) (sym f) ∙ h))

pub write_bounded : (w : Write) (m : Memory) (bits : ℕ) → slice_get w.memory.sheet.now.design.memories w.memory.place ≡ Some m → bits ≡ bits_in w → nat_le (2 ^ bits) m.depth ≡ false → bounded_in w m.depth ∷ [] ≡ write_in w
write_bounded w m bits e f h =
    ap (λ n. bounded_in w n ∷ []) (sym (depth_is w m e))
    ∙ sym (guarded_by (names_in w).adr (bits_in w) (depth_in w) (parts_in w) false (ap (nat_le (2 ^ bits_in w)) (depth_is w m e) ∙ ap (λ b. nat_le (2 ^ b) m.depth) (sym f) ∙ h))

-- ---- what a port writes

no_dat_w : (part : ℕ) (a b : Option SigId) → ((x : SigId) → a ≡ Some x → ⊥) → writer_of part a b ≡ None
no_dat_w part None b h = refl
no_dat_w part (Some x) b h = absurd (h x refl)

no_we : (part : ℕ) (a b : Option SigId) → ((x : SigId) → b ≡ Some x → ⊥) → writer_of part a b ≡ None
no_we part None b h = refl
no_we part (Some x) None h = refl
no_we part (Some x) (Some y) h = absurd (h y refl)

writes_none : (p : Plan) (q : Port) → writer_of q.part q.dat_w q.we ≡ None → writes_in p q ≡ []
writes_none p q e = ap (writes_text p.design p.names (port_of q)) e

pub without_dat_w : (p : Plan) (q : Port) → ((x : SigId) → q.dat_w ≡ Some x → ⊥) → writes_in p q ≡ []
without_dat_w p q h = writes_none p q (no_dat_w q.part q.dat_w q.we h)

pub without_we : (p : Plan) (q : Port) → ((x : SigId) → q.we ≡ Some x → ⊥) → writes_in p q ≡ []
without_we p q h = writes_none p q (no_we q.part q.dat_w q.we h)

pub writers_there : (d : Design) (width part : ℕ) (a b : Option SigId) (x y : SigId) → a ≡ Some x → b ≡ Some y → WriterStands d width part a b → (x.0 < length d.signals) × (y.0 < length d.signals)
writers_there d width part None b x y e f h = absurd (cc)
writers_there d width part (Some u) None x y e f h = absurd (cc)
writers_there d width part (Some u) (Some v) x y e f h =
    let l : u ≡ x = cc in
    let r : v ≡ y = cc in
    (subst (λ (z : SigId). z.0 < length d.signals) l h.0.there, subst (λ (z : SigId). z.0 < length d.signals) r h.1.there)

-- the text of a port that writes
write_is : (p : Plan) (q : Port) (m : Memory) (x y : SigId) → slice_get p.design.memories q.memory ≡ Some m → q.dat_w ≡ Some x → q.we ≡ Some y
    → guarded (net_in p q.adr.0) (shapes p.design q.adr.0).bits (memory_at p.design q.memory).depth (parts_text (record { memory = memory_in p q.memory; adr = net_in p q.adr.0; dat_w = net_in p x.0; we = net_in p y.0 }) m.width q.part) ≡ writes_in p q
write_is p q m x y e f g =
    let width : (memory_at p.design q.memory).width ≡ m.width = ap (λ (z : memory.Memory). z.width) (memory_is p.design q.memory m e) in
    ap (λ n. guarded (net_in p q.adr.0) (shapes p.design q.adr.0).bits (memory_at p.design q.memory).depth (parts_text (record { memory = memory_in p q.memory; adr = net_in p q.adr.0; dat_w = net_in p x.0; we = net_in p y.0 }) n q.part)) (sym width)
    ∙ sym (ap (writes_text p.design p.names (port_of q)) (ap (λ (o : Option SigId). writer_of q.part o q.we) f ∙ ap (λ (o : Option SigId). writer_of q.part (Some x) o) g))

-- that text, of what is read of a sheet
abbrev text_by : Plan → ℕ → Plan → SigId → Plan → SigId → Plan → SigId → ℕ → ℕ → List tree.VStmt
text_by pm k pa a pd d pw e width part =
    guarded (net_in pa a.0) (shapes pa.design a.0).bits (memory_at pm.design k).depth (parts_text (record { memory = memory_in pm k; adr = net_in pa a.0; dat_w = net_in pd d.0; we = net_in pw e.0 }) width part)

pub written_by : (pm pa pd pw p : Plan) (k : ℕ) (a d e : SigId) (q : Port) (m : Memory) (x y : SigId) → pm ≡ p → k ≡ q.memory → pa ≡ p → a ≡ q.adr → pd ≡ p → d ≡ x → pw ≡ p → e ≡ y
    → slice_get pm.design.memories k ≡ Some m → q.dat_w ≡ Some x → q.we ≡ Some y → text_by pm k pa a pd d pw e m.width q.part ≡ writes_in p q
written_by pm pa pd pw p k a d e q m x y sm sk sa fa sd fd sw fw item g h =
    (λ i. text_by (sm i) (sk i) (sa i) (fa i) (sd i) (fd i) (sw i) (fw i) m.width q.part)
    ∙ write_is p q m x y ((λ i. slice_get (sym sm i).design.memories (sym sk i)) ∙ item) g h

pub other_memory : (p : Plan) (q : Port) (k : ℕ) → nat_eq q.memory k ≡ false → [] ≡ port_in p k q
unfolding port_text
other_memory p q k e = sym (ap (λ b. cond b (writes_in p q) []) e)

pub same_memory : (p : Plan) (q : Port) (k : ℕ) → nat_eq q.memory k ≡ true → writes_in p q ≡ port_in p k q
unfolding port_text
same_memory p q k e = sym (ap (λ b. cond b (writes_in p q) []) e)

-- ---- the ports of a memory

stmts_then : (n0 n1 n2 : NodeLists) (xs ys zs : List StmtRef) (ts us : List tree.VStmt) → PutStmts n0 n1 xs ys ts → PutStmts n1 n2 ys zs us → PutStmts n0 n2 xs zs (ts ++ us)
stmts_then n0 n1 n2 xs ys zs ts us p q = record {
  grows = grows_then n0 n1 n2 p.grows q.grows;
  within = q.within;
  trees = q.trees ∙ ap (λ (vs : List tree.VStmt). vs ++ us) p.trees ∙ append_assoc (trees_of (stmt_tree n0) xs) ts us;
}

one_port : (p : Plan) (k j : ℕ) (q : Port) → slice_get p.design.ports j ≡ Some q → flat_map (port_in p k) (take (j + 1) p.design.ports) ≡ flat_map (port_in p k) (take j p.design.ports) ++ port_in p k q
one_port p k j q e =
    let l = slice_get_within p.design.ports j q e in
    ap (flat_map (port_in p k)) (take_more p.design.ports j q l ∙ ap (λ (r : Port). take j p.design.ports ++ r ∷ []) (get_or_from_slice_get p.design.ports j q q e))
    ∙ flat_map-append (port_in p k) (take j p.design.ports) (q ∷ [])
    ∙ ap (λ (ts : List tree.VStmt). flat_map (port_in p k) (take j p.design.ports) ++ ts) (append-nil (port_in p k q))

pub ports_next : (n0 n1 n2 : NodeLists) (xs ys zs : List StmtRef) (p : Plan) (k j : ℕ) (q : Port) → slice_get p.design.ports j ≡ Some q → PutStmts n0 n1 xs ys (flat_map (port_in p k) (take j p.design.ports))
    → PutStmts n1 n2 ys zs (port_in p k q) → PutStmts n0 n2 xs zs (flat_map (port_in p k) (take (j + 1) p.design.ports))
ports_next n0 n1 n2 xs ys zs p k j q e h g =
    subst (λ (ts : List tree.VStmt). PutStmts n0 n2 xs zs ts) (sym (one_port p k j q e)) (stmts_then n0 n1 n2 xs ys zs (flat_map (port_in p k) (take j p.design.ports)) (port_in p k q) h g)

mapped : {A B C : Type 0} (f : B → List C) (g : A → B) (xs : List A) → flat_map (λ x. f (g x)) xs ≡ flat_map f (map g xs)
mapped f g [] = refl
mapped f g (x ∷ xs) = ap (λ (cs : List _). f (g x) ++ cs) (mapped f g xs)

pub body_is : (n0 n1 : NodeLists) (before after : List StmtRef) (p : Plan) (k n : ℕ) → before ≡ [] → length p.design.ports ≤ n → PutStmts n0 n1 before after (flat_map (port_in p k) (take n p.design.ports)) → PutBlock n0 n1 after (memory_body_in p k)
unfolding memory_body circuit_of
body_is n0 n1 before after p k n none l h =
    let all = flat_map (port_in p k) (take n p.design.ports) in
    let same : all ≡ flat_map (port_text p.design p.names k) (map port_of p.design.ports) = ap (flat_map (port_in p k)) (take_all n p.design.ports l) ∙ mapped (port_text p.design p.names k) port_of p.design.ports in
    subst (λ (b : tree.VBlock). PutBlock n0 n1 after b) (ends_block all ∙ ap block_of same) (stmts_block n0 n1 before after all none h)

-- ---- the clock

we_some : (part : ℕ) (a b : Option SigId) → is_some (writer_of part a b) ≡ true → (y : SigId) × (b ≡ Some y)
we_some part None b e = absurd (cc)
we_some part (Some x) None e = absurd (cc)
we_some part (Some x) (Some y) e = (y, refl)

writer_clocked : (m : PortMode) (b : Option SigId) (y : SigId) → b ≡ Some y → is_clocked m b ≡ true
writer_clocked m None y e = absurd (cc)
writer_clocked mode.Async (Some x) y e = refl
writer_clocked mode.WriteFirst (Some x) y e = refl
writer_clocked mode.ReadFirst (Some x) y e = refl
writer_clocked mode.NoChange (Some x) y e = refl

domain_within : (n : ℕ) (o : Option ℕ) (x : ℕ) → IsSomeAnd o (λ k. k < n) → o ≡ Some x → x < n
domain_within n None x h e = absurd h
domain_within n (Some k) x h e = let same : k ≡ x = cc in subst (λ j. j < n) same h

port_within : (d : Design) (q : Port) (x : ℕ) → IsPort d q → is_some (port_of q).writer ≡ true → q.domain ≡ Some x → x < length d.domains
port_within d q x stands e f =
    let (y, g) = we_some q.part q.dat_w q.we e in
    domain_within (length d.domains) q.domain x (subst (λ b. HasDomain (length d.domains) b q.domain) (writer_clocked q.mode q.we y g) stands.domain) f

pub domain_there : (d : Design) (k x : ℕ) (qs : List Port) → EachOf (IsPort d) qs → writing_domain k (map port_of qs) ≡ Some x → x < length d.domains
domain_there d k x [] h e = absurd (cc)
domain_there d k x (q ∷ qs) h e = by_answer (writes_memory k (port_of q)) refl e (domain_there d k x qs h.1)
  where
    by_answer : (b : Bool) → writes_memory k (port_of q) ≡ b → cond b q.domain (writing_domain k (map port_of qs)) ≡ Some x → (writing_domain k (map port_of qs) ≡ Some x → x < length d.domains) → x < length d.domains
    by_answer true t f rest = port_within d q x h.0 (and_parts (nat_eq q.memory k) (is_some (port_of q).writer) t).1 f
    by_answer false t f rest = rest f

pub clocked_block : (p : Plan) (k x : ℕ) (qs : List Port) → qs ≡ p.design.ports → writing_domain k (map port_of qs) ≡ Some x → record { clock = Some (clock p.design x); body = memory_body_in p k } ∷ [] ≡ memory_always_in p k
unfolding memory_always circuit_of
clocked_block p k x qs same e = sym (ap (clocked p.design (memory_body_in p k)) (ap (λ (rs : List Port). writing_domain k (map port_of rs)) (sym same) ∙ e))

pub no_block : (p : Plan) (k : ℕ) (qs : List Port) (o : Option ℕ) → qs ≡ p.design.ports → o ≡ writing_domain k (map port_of qs) → ((x : ℕ) → o ≡ Some x → ⊥) → [] ≡ memory_always_in p k
unfolding memory_always circuit_of
no_block p k qs o same e n = sym (ap (clocked p.design (memory_body_in p k)) (ap (λ (rs : List Port). writing_domain k (map port_of rs)) (sym same) ∙ sym e ∙ none o n))
  where
    none : (r : Option ℕ) → ((x : ℕ) → r ≡ Some x → ⊥) → r ≡ None
    none None h = refl
    none (Some x) h = absurd (h x refl)
