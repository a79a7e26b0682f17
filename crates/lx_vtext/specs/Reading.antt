-- The reading of a text: the one tree whose text it is.
use Rattle.std.specs.Prelude.{ℕ, zero, suc, Bool, true, false, not, ◌==◌, ◌+◌, ◌-◌, List, [], ◌∷◌, Option, Some, None, map, length, codes, bytes_eq, if◌then◌else◌}
use Rattle.std.specs.Int.Digits.{number_from_digits}
use Rattle.lx_vtext.specs.declared.operators.BinOp.{BinOp}
use Rattle.lx_vtext.specs.declared.operators.BinOp.TheVariants as op
use Rattle.lx_vtext.specs.declared.operators.UnOp.{UnOp}
use Rattle.lx_vtext.specs.declared.operators.UnOp.TheVariants as unary
use Rattle.lx_vtext.specs.Tree.{Name, VExpr, Net, Literal, PartSelect, Word, Unary, Binary, Conditional, Concatenation, Replication, ToSigned, ToUnsigned, VExprs, NoMore, More, VTarget, Whole, Part, WholeWord, PartWord, VStmt, Assign, When, NoElse, Else, VBlock, EndBlock, InBlock, VLiteral, VNet, VPort, VDecl, NetDecl, MemoryDecl, VSet, VAssign, VAlways, VModule}
use Rattle.lx_vtext.specs.Names.{is_digit, is_name_start, is_name_byte, is_name}
use Rattle.lx_vtext.specs.Printed.{number_text, op_text, indent}
use Rattle.lx_vtext.specs.Fits.{is_literal}

infixl 10 ◌>>=◌
abbrev pub ◌>>=◌ : {A B : Type 0} → Option A → (A → Option B) → Option B
(Some x) >>= f = f x
None >>= f = None

-- where this reads, go on there, else the other way
abbrev pub if_some : {A B : Type 0} → Option A → (A → Option B) → Option B → Option B
if_some (Some x) f other = f x
if_some None f other = other

-- a part, and what stands after it
abbrev pub Reader : Type 0 → Type 0
Reader A = List ℕ → Option (A × List ℕ)

-- what stands after this word
unfoldable pub after : List ℕ → List ℕ → Option (List ℕ)
after [] bytes = Some bytes
after (w ∷ ws) [] = None
after (w ∷ ws) (b ∷ bs) = if b == w then after ws bs else None

-- the longest front of such bytes, and what stands after it
abbrev pub front : (ℕ → Bool) → List ℕ → List ℕ
front p [] = []
front p (b ∷ bs) = if p b then b ∷ front p bs else []

abbrev pub behind : (ℕ → Bool) → List ℕ → List ℕ
behind p [] = []
behind p (b ∷ bs) = if p b then behind p bs else b ∷ bs

unfoldable pub name_at : Reader Name
name_at bytes = if is_name (front is_name_byte bytes) then Some (front is_name_byte bytes, behind is_name_byte bytes) else None

-- the number that decimal digits write
abbrev pub number_value : List ℕ → ℕ
number_value digits = number_from_digits 10 (map (λ b. b - 48) digits)

abbrev pub number_of : List ℕ → List ℕ → Option (ℕ × List ℕ)
number_of digits rest = if bytes_eq (number_text (number_value digits)) digits then Some (number_value digits, rest) else None

unfoldable pub number_at : Reader ℕ
number_at bytes = number_of (front is_digit bytes) (behind is_digit bytes)

-- `hi:lo]`
unfoldable pub range_at : Reader (ℕ × ℕ)
range_at bytes = do
  hi ← number_at bytes
  colon ← after (codes ":") hi.1
  lo ← number_at colon
  rest ← after (codes "]") lo.1
  Some ((hi.0, lo.0), rest)

unfoldable pub sign_at : Reader Bool
sign_at bytes = if_some (after (codes "'sd") bytes) (λ r. Some (true, r)) (after (codes "'d") bytes >>= λ r. Some (false, r))

abbrev pub value_of : ℕ → Bool → ℕ → List ℕ → Option (VLiteral × List ℕ)
value_of bits signed value rest = if is_literal bits value then Some (record { bits = bits; signed = signed; value = value }, rest) else None

unfoldable pub value_at : Reader VLiteral
value_at bytes = do
  bits ← number_at bytes
  signed ← sign_at bits.1
  value ← number_at signed.1
  value_of bits.0 signed.0 value.0 value.1

unfoldable pub literal_at : Reader VExpr
literal_at bytes = do
  v ← value_at bytes
  Some (Literal v.0.bits v.0.signed v.0.value, v.1)

-- `expr]` behind a name and `[`
unfoldable pub word_of : Reader VExpr → Name → Reader VExpr
word_of read name bytes = do
  e ← read bytes
  rest ← after (codes "]") e.1
  Some (Word name e.0, rest)

unfoldable pub named_at : Reader VExpr → Reader VExpr
named_at read bytes = do
  n ← name_at bytes
  if_some (after (codes "[") n.1) (λ b. if_some (range_at b) (λ r. Some (PartSelect n.0 r.0.0 r.0.1, r.1)) (word_of read n.0 b)) (Some (Net n.0, n.1))

unfoldable pub unary_of : Reader UnOp
unary_of bytes = if_some (after (codes "-") bytes) (λ r. Some (unary.Negate, r)) (after (codes "~") bytes >>= λ r. Some (unary.Invert, r))

unfoldable pub unary_at : Reader VExpr → UnOp → Reader VExpr
unary_at read op bytes = do
  e ← read bytes
  rest ← after (codes ")") e.1
  Some (Unary op e.0, rest)

abbrev pub ops : List BinOp
ops = op.Add ∷ op.Sub ∷ op.Mul ∷ op.ShiftLeft ∷ op.ArithmeticLeft ∷ op.ShiftRight ∷ op.ArithmeticRight ∷ op.And ∷ op.Or ∷ op.Xor ∷ op.Less ∷ op.LessEqual ∷ op.Equal ∷ op.NotEqual ∷ op.Greater ∷ op.GreaterEqual ∷ []

abbrev pub find_op : List BinOp → List ℕ → Option BinOp
find_op [] word = None
find_op (o ∷ os) word = if bytes_eq (op_text o) word then Some o else find_op os word

abbrev pub not_blank : ℕ → Bool
not_blank b = not (b == 32)

unfoldable pub op_at : Reader BinOp
op_at bytes = find_op ops (front not_blank bytes) >>= λ o. Some (o, behind not_blank bytes)

unfoldable pub choose_at : Reader VExpr → VExpr → Reader VExpr
choose_at read c bytes = do
  a ← read bytes
  colon ← after (codes " : ") a.1
  b ← read colon
  rest ← after (codes ")") b.1
  Some (Conditional c a.0 b.0, rest)

unfoldable pub binary_at : Reader VExpr → VExpr → Reader VExpr
binary_at read a bytes = do
  blank ← after (codes " ") bytes
  op ← op_at blank
  second ← after (codes " ") op.1
  b ← read second
  rest ← after (codes ")") b.1
  Some (Binary a op.0 b.0, rest)

unfoldable pub joined_at : Reader VExpr → Reader VExpr
joined_at read bytes = do
  a ← read bytes
  if_some (after (codes " ? ") a.1) (λ r. choose_at read a.0 r) (binary_at read a.0 a.1)

-- behind `(`
unfoldable pub round_at : Reader VExpr → Reader VExpr
round_at read bytes = if_some (unary_of bytes) (λ u. unary_at read u.0 u.1) (joined_at read bytes)

-- parts, each behind `, `
abbrev pub with_part : List ℕ → Option (VExpr × List ℕ) → (List ℕ → VExprs × List ℕ) → VExprs × List ℕ
with_part bytes None more = (NoMore, bytes)
with_part bytes (Some x) more = (More x.0 (more x.1).0, (more x.1).1)

unfoldable pub more_at : Reader VExpr → ℕ → List ℕ → VExprs × List ℕ
more_at read zero bytes = (NoMore, bytes)
more_at read (suc n) bytes = with_part bytes (after (codes ", ") bytes >>= read) (λ rest. more_at read n rest)

unfoldable pub parts_at : Reader VExpr → Reader VExpr
parts_at read bytes = do
  e ← read bytes
  let es = more_at read (length e.1) e.1
  rest ← after (codes "}") es.1
  Some (Concatenation e.0 es.0, rest)

-- `count{` behind `{`
unfoldable pub count_at : Reader ℕ
count_at bytes = do
  k ← number_at bytes
  rest ← after (codes "{") k.1
  Some (k.0, rest)

unfoldable pub repeat_at : Reader VExpr → ℕ → Reader VExpr
repeat_at inner k bytes = do
  e ← inner bytes
  rest ← after (codes "}}") e.1
  Some (Replication k e.0, rest)

-- behind `{`
unfoldable pub curly_at : Reader VExpr → Reader VExpr → Reader VExpr
curly_at read inner bytes = if_some (count_at bytes) (λ k. repeat_at inner k.0 k.1) (parts_at read bytes)

unfoldable pub to_signed_at : Reader VExpr → Reader VExpr
to_signed_at read bytes = do
  e ← read bytes
  rest ← after (codes ")") e.1
  Some (ToSigned e.0, rest)

unfoldable pub to_unsigned_at : Reader VExpr → Reader VExpr
to_unsigned_at read bytes = do
  e ← read bytes
  rest ← after (codes ")") e.1
  Some (ToUnsigned e.0, rest)

unfoldable pub sign_form_at : Reader VExpr → Reader VExpr
sign_form_at read bytes = if_some (after (codes "$signed(") bytes) (λ r. to_signed_at read r) (after (codes "$unsigned(") bytes >>= λ r. to_unsigned_at read r)

-- what a text begins with
pub data Start : Type 0 where
  Letter : Start
  Digit : Start
  Round : Start
  Curly : Start
  Dollar : Start
  Other : Start

abbrev pub start_of : List ℕ → Start
start_of [] = Other
start_of (b ∷ bs) = if is_name_start b then Letter else if is_digit b then Digit else if b == 40 then Round else if b == 123 then Curly else if b == 36 then Dollar else Other

-- within no more brackets
unfoldable pub leaf_at : Start → Reader VExpr
leaf_at Letter bytes = name_at bytes >>= λ n. Some (Net n.0, n.1)
leaf_at Digit bytes = literal_at bytes
leaf_at _ bytes = None

-- read reads within one more bracket, and inner within two
unfoldable pub form_at : Reader VExpr → Reader VExpr → Start → Reader VExpr
form_at read inner Letter bytes = named_at read bytes
form_at read inner Digit bytes = literal_at bytes
form_at read inner Round bytes = after (codes "(") bytes >>= λ r. round_at read r
form_at read inner Curly bytes = after (codes "{") bytes >>= λ r. curly_at read inner r
form_at read inner Dollar bytes = sign_form_at read bytes
form_at read inner Other bytes = None

abbrev pub nothing_at : Reader VExpr
nothing_at bytes = None

-- an expression within which at most so many brackets are open at a place
unfoldable pub expr_at : ℕ → Reader VExpr
expr_at zero bytes = leaf_at (start_of bytes) bytes
expr_at (suc zero) bytes = form_at (expr_at zero) nothing_at (start_of bytes) bytes
expr_at (suc (suc d)) bytes = form_at (expr_at (suc d)) (expr_at d) (start_of bytes) bytes

-- `expr]`, and a range, behind a name and `[`
unfoldable pub word_target_of : Name → Reader VTarget
word_target_of name bytes = do
  e ← expr_at 31 bytes
  r ← after (codes "]") e.1
  if_some (after (codes "[") r) (λ b. range_at b >>= λ h. Some (PartWord name e.0 h.0.0 h.0.1, h.1)) (Some (WholeWord name e.0, r))

unfoldable pub target_at : Reader VTarget
target_at bytes = do
  n ← name_at bytes
  if_some (after (codes "[") n.1) (λ b. if_some (range_at b) (λ r. Some (Part n.0 r.0.0 r.0.1, r.1)) (word_target_of n.0 b)) (Some (Whole n.0, n.1))

unfoldable pub sets_at : Reader Bool
sets_at bytes = if_some (after (codes " = ") bytes) (λ r. Some (true, r)) (after (codes " <= ") bytes >>= λ r. Some (false, r))

unfoldable pub assign_stmt_at : VTarget → Reader VStmt
assign_stmt_at target bytes = do
  blocking ← sets_at bytes
  e ← expr_at 32 blocking.1
  rest ← after (codes ";\n") e.1
  Some (Assign target blocking.0 e.0, rest)

-- blocks read as far as there are statements
abbrev pub Blocks : Type 0
Blocks = List ℕ → VBlock × List ℕ

unfoldable pub else_at : Blocks → ℕ → VExpr → VBlock → Reader VStmt
else_at block k c so bytes = do
  let other = block bytes
  e ← after (indent k) other.1
  rest ← after (codes "end\n") e
  Some (When c so (Else other.0), rest)

unfoldable pub end_at : Blocks → ℕ → VExpr → VBlock → Reader VStmt
end_at block k c so bytes = do
  e ← after (indent k) bytes
  if_some (after (codes "end else begin\n") e) (λ b. else_at block k c so b) (after (codes "end\n") e >>= λ r. Some (When c so NoElse, r))

unfoldable pub when_at : Blocks → ℕ → Reader VStmt
when_at block k bytes = do
  b ← after (codes "if (") bytes
  c ← expr_at 31 b
  r ← after (codes ") begin\n") c.1
  let so = block r
  end_at block k c.0 so.0 so.1

unfoldable pub stmt_at : Blocks → ℕ → Reader VStmt
stmt_at block k bytes = do
  b ← after (indent k) bytes
  if_some (target_at b) (λ t. assign_stmt_at t.0 t.1) (when_at block k b)

abbrev pub with_stmt : List ℕ → Option (VStmt × List ℕ) → Blocks → VBlock × List ℕ
with_stmt bytes None more = (EndBlock, bytes)
with_stmt bytes (Some x) more = (InBlock x.0 (more x.1).0, (more x.1).1)

unfoldable pub stmts_at : Reader VStmt → ℕ → Blocks
stmts_at read zero bytes = (EndBlock, bytes)
stmts_at read (suc n) bytes = with_stmt bytes (read bytes) (λ rest. stmts_at read n rest)

-- statements that nest at most so deep, at so many levels
unfoldable pub block_at : ℕ → ℕ → Blocks
block_at zero k bytes = (EndBlock, bytes)
block_at (suc d) k bytes = stmts_at (stmt_at (block_at d (k + 1)) k) (length bytes) bytes

-- as many parts as there are
abbrev pub with_item : {A : Type 0} → List ℕ → Option (A × List ℕ) → (List ℕ → List A × List ℕ) → List A × List ℕ
with_item bytes None more = ([], bytes)
with_item bytes (Some x) more = (x.0 ∷ (more x.1).0, (more x.1).1)

unfoldable pub many : {A : Type 0} → Reader A → ℕ → List ℕ → List A × List ℕ
many read zero bytes = ([], bytes)
many read (suc n) bytes = with_item bytes (read bytes) (λ rest. many read n rest)

abbrev pub all_at : {A : Type 0} → Reader A → List ℕ → List A × List ℕ
all_at read bytes = many read (length bytes) bytes

abbrev pub signed_of : List ℕ → Option (List ℕ) → Bool × List ℕ
signed_of bytes None = (false, bytes)
signed_of bytes (Some rest) = (true, rest)

unfoldable pub signed_at : List ℕ → Bool × List ℕ
signed_at bytes = signed_of bytes (after (codes "signed ") bytes)

-- `hi:0] ` with hi not 0, behind `[`
unfoldable pub width_at : Reader ℕ
width_at bytes = do
  hi ← number_at bytes
  rest ← after (codes ":0] ") hi.1
  if hi.0 == 0 then None else Some (hi.0 + 1, rest)

unfoldable pub bits_at : Reader ℕ
bits_at bytes = if_some (after (codes "[") bytes) (λ r. width_at r) (Some (1, bytes))

-- the sign, the bits and the name of a net
unfoldable pub head_at : Reader (Bool × ℕ × Name)
head_at bytes = do
  let signed = signed_at bytes
  bits ← bits_at signed.1
  name ← name_at bits.1
  Some ((signed.0, bits.0, name.0), name.1)

abbrev pub net_of : Bool × ℕ × Name → Option VLiteral → VNet
net_of head init = record { signed = head.0; bits = head.1; name = head.2; init = init }

-- behind `wire `
unfoldable pub wire_at : Reader VNet
wire_at bytes = do
  head ← head_at bytes
  Some (net_of head.0 None, head.1)

-- behind `reg `
unfoldable pub reg_at : Reader VNet
reg_at bytes = do
  head ← head_at bytes
  r ← after (codes " = ") head.1
  init ← value_at r
  Some (net_of head.0 (Some init.0), init.1)

unfoldable pub net_at : Reader VNet
net_at bytes = if_some (after (codes "wire ") bytes) (λ r. wire_at r) (after (codes "reg ") bytes >>= λ r. reg_at r)

abbrev pub port_of : Bool → VNet → VPort
port_of is_input net = record { is_input = is_input; net = net }

unfoldable pub input_at : Reader VPort
input_at bytes = do
  r ← after (codes "wire ") bytes
  n ← wire_at r
  Some (port_of true n.0, n.1)

unfoldable pub output_at : Reader VPort
output_at bytes = do
  n ← net_at bytes
  Some (port_of false n.0, n.1)

unfoldable pub port_at : Reader VPort
port_at bytes = if_some (after (codes "    input ") bytes) (λ r. input_at r) (after (codes "    output ") bytes >>= λ r. output_at r)

unfoldable pub more_port_at : Reader VPort
more_port_at bytes = after (codes ",\n") bytes >>= λ r. port_at r

unfoldable pub ports_from : VPort → Reader (List VPort)
ports_from p bytes = do
  let ps = all_at more_port_at bytes
  rest ← after (codes "\n") ps.1
  Some (p ∷ ps.0, rest)

unfoldable pub ports_at : Reader (List VPort)
ports_at bytes = if_some (port_at bytes) (λ p. ports_from p.0 p.1) (Some ([], bytes))

unfoldable pub net_decl_at : Reader VNet → Reader VDecl
net_decl_at read bytes = do
  n ← read bytes
  rest ← after (codes ";\n") n.1
  Some (NetDecl n.0, rest)

-- `[hi:0] name [0:` of a memory, behind `reg `
unfoldable pub memory_head_at : Reader (ℕ × Name)
memory_head_at bytes = do
  b ← after (codes "[") bytes
  hi ← number_at b
  r ← after (codes ":0] ") hi.1
  name ← name_at r
  rest ← after (codes " [0:") name.1
  Some ((hi.0 + 1, name.0), rest)

unfoldable pub memory_from : ℕ × Name → Reader VDecl
memory_from head bytes = do
  last ← number_at bytes
  rest ← after (codes "];\n") last.1
  Some (MemoryDecl (record { bits = head.0; name = head.1; depth = last.0 + 1 }), rest)

unfoldable pub reg_decl_at : Reader VDecl
reg_decl_at bytes = if_some (memory_head_at bytes) (λ h. memory_from h.0 h.1) (net_decl_at reg_at bytes)

unfoldable pub decl_at : Reader VDecl
decl_at bytes = if_some (after (codes "wire ") bytes) (λ r. net_decl_at wire_at r) (after (codes "reg ") bytes >>= λ r. reg_decl_at r)

unfoldable pub set_at : Reader VSet
set_at bytes = do
  b ← after (codes "    ") bytes
  name ← name_at b
  i ← after (codes "[") name.1
  index ← number_at i
  v ← after (codes "] = ") index.1
  value ← value_at v
  rest ← after (codes ";\n") value.1
  Some (record { name = name.0; index = index.0; value = value.0 }, rest)

unfoldable pub initial_at : Reader (List VSet)
initial_at bytes = do
  b ← after (codes "initial begin\n") bytes
  let sets = all_at set_at b
  rest ← after (codes "end\n") sets.1
  Some (sets.0, rest)

unfoldable pub assign_at : Reader VAssign
assign_at bytes = do
  b ← after (codes "assign ") bytes
  name ← name_at b
  r ← after (codes " = ") name.1
  e ← expr_at 32 r
  rest ← after (codes ";\n") e.1
  Some (record { name = name.0; value = e.0 }, rest)

unfoldable pub clock_at : Reader (Option Name)
clock_at bytes = do
  r ← after (codes "posedge ") bytes
  clock ← name_at r
  Some (Some clock.0, clock.1)

unfoldable pub event_at : Reader (Option Name)
event_at bytes = if_some (after (codes "*") bytes) (λ r. Some (None, r)) (clock_at bytes)

unfoldable pub always_at : Reader VAlways
always_at bytes = do
  b ← after (codes "always @(") bytes
  event ← event_at b
  r ← after (codes ") begin\n") event.1
  let body = block_at 128 1 r
  rest ← after (codes "end\n") body.1
  Some (record { clock = event.0; body = body.0 }, rest)

abbrev pub made_module : List VPort → List VDecl → List (List VSet) → List VAssign → List VAlways → VModule
made_module ports decls inits assigns always = record { ports = ports; decls = decls; inits = inits; assigns = assigns; always = always }

unfoldable pub module_at : Reader VModule
module_at bytes = do
  b ← after (codes "module top (\n") bytes
  ports ← ports_at b
  r ← after (codes ");\n") ports.1
  let decls = all_at decl_at r
  let inits = all_at initial_at decls.1
  let assigns = all_at assign_at inits.1
  let always = all_at always_at assigns.1
  rest ← after (codes "endmodule\n") always.1
  Some (made_module ports.0 decls.0 inits.0 assigns.0 always.0, rest)

-- the module of a text, all of its bytes
abbrev pub whole : VModule × List ℕ → Option VModule
whole (m, []) = Some m
whole (m, b ∷ bs) = None

unfoldable pub module_of : List ℕ → Option VModule
module_of bytes = module_at bytes >>= whole
