-- The members of a struct, their names and the lengths of these, as far as they were read.
use Rattle.std.proofs.Common.{◌≡◌, ℕ, ◌+◌, ◌-◌, ◌≤◌, ◌<◌, List, [], ◌∷◌, ◌++◌, length, Bool, true, false, refl, sym, ap, ◌∙◌, subst, length-append, arith, ◌⊎◌, inl, inr}
use Rattle.std.specs.Prelude.{Option, Some, None, not, Result, Ok, Err, IfOk, IfErr}
use Rattle.std.specs.Result.{IsErrAnd}
use Rattle.std.proofs.lemmas.Result.{err_from_is_err_and}
use Rattle.cl_ast.specs.declared.expression.Qual.{Qual}
use Rattle.cl_ast.specs.declared.expression.Expr.{Expr}
use Rattle.cl_ast.specs.declared.expression.Declor.{Declor}
use Rattle.cl_grammar.specs.declared.lexeme.Lexeme.{Lexeme}
use Rattle.cl_grammar.specs.declared.terminal.Terminal.{Terminal}
use Rattle.cl_grammar.specs.declared.terminal.Terminal.TheVariants as t
use Rattle.cl_grammar.specs.declared.stop.ExprStop.{ExprStop}
use Rattle.cl_grammar.specs.declared.stop.ExprStop.TheVariants.{NoMemory}
use Rattle.cl_grammar.specs.Terminals.{qualifier_of}
use Rattle.cl_grammar.specs.ExpressionTrees.{IsStruct, IsDeclor, BaseTree, DeclorTrees, MemberTrees, LengthTrees, CondTree}
use Rattle.cl_grammar.specs.Symbols as s
use Rattle.cl_grammar.specs.Symbols.{Mark, E}
use Rattle.cl_grammar.specs.Items.{between, EndsIn, IsAt, OtherAt, GoesOn, ReadAt, NoneAt, RefusedAt, BarredAt}
use Rattle.cl_grammar.proofs.Predicted.{keeps_part}
use Rattle.cl_grammar.proofs.Places.{goes, more_tokens}
use Rattle.cl_parse_expr.specs.declared.expression.SpecRead.{SpecRead}
use Rattle.cl_parse_expr.specs.declared.expression.Taken.{Taken}
use Rattle.cl_parse_expr.specs.declared.parts.Names.{Names}
use Rattle.cl_parse_expr.specs.declared.parts.Members.{Members}
use Rattle.cl_parse_expr.specs.declared.simple.BaseRead.{BaseRead}
use Rattle.cl_parse_expr.specs.declared.simple.Tag.{Tag}
use Rattle.cl_parse_expr.specs.declared.simple.Head.{Head}
use Rattle.cl_parse_expr.specs.Reading.{Qualified, QualifiedFrom, TagAt, bare, tagged, HeadAt, MemberAt, NoMemberAt, TakenAt, SpecAt, BaseAt, TypeOut, NamesAt, DeclorAt, FieldBehind}
use Rattle.cl_parse_expr.proofs.Nodes.{some_token}
use Rattle.cl_parse_expr.proofs.Steps.{spec_taken}
use Rattle.cl_parse_expr.proofs.TypeReadings.{MemberNext, member_next, member_here, positive, member_words, member_refused_words, member_refused_names, struct_open, struct_refused_close, struct_read, struct_no_vector, struct_barred, members_over, names_refused, names_read, names_more, names_refused_more, names_refused_semicolon, names_done, lengths_missing, lengths_given, length_refused, length_refused_close, declor_done}
use Rattle.cl_parse_expr.proofs.Trees.{MembersSoFar, members_start_tree, members_more_tree, members_last_tree, struct_tree, names_start_tree, names_more_tree, lengths_start_tree, lengths_missing_tree, lengths_given_tree, declor_tree}

-- ---- results of a `?`

pub stopped : {T : Type 0} (Q : ExprStop → Type 0) (e : ExprStop) (r : Result T ExprStop) → IsErrAnd r (λ s. s ≡ e) → Q e → IfErr r Q
stopped Q e r is h = let p = err_from_is_err_and r is in rw (p.1, p.2) h

pub not_ok : {T : Type 0} (P : T → Type 0) (e : ExprStop) (r : Result T ExprStop) → IsErrAnd r (λ s. s ≡ e) → IfOk r P
not_ok P e r is = let p = err_from_is_err_and r is in rw p.1 tt

pub no_type_memory : (x : Bool → s.ExprSym) (ts : List Lexeme) (at : ℕ) → TypeOut x ts at NoMemory
no_type_memory x ts at = record { barred = record { barred = tt }; out = record { refused = tt } }

pub bracket_more : (ts : List Lexeme) (at : ℕ) → EndsIn ts → IsAt ts at t.OpenBracket → at + 1 < length ts
bracket_more ts at ends i = more_tokens ts at t.OpenBracket ends i refl

pub comma_more : (ts : List Lexeme) (at : ℕ) → EndsIn ts → IsAt ts at t.Comma → at + 1 < length ts
comma_more ts at ends i = more_tokens ts at t.Comma ends i refl

-- ---- the words of a type

pub spec_whole : (ts : List Lexeme) (at here : ℕ) (none before : List Qual) (b : BaseRead) (words : SpecRead) → at < length ts → none ≡ [] → ReadAt (E s.Qualifiers) ts at here → Qualified qualifier_of ts at here none before → BaseAt ts here b → QualifiedFrom ts before b words → SpecAt ts at words
spec_whole ts at here none before b words h e r q m f = spec_taken ts at here before b words h r (subst (λ z. Qualified qualifier_of ts at here z before) e q) m f

-- ---- a type without its qualifiers

pub base_ok : (r : Result BaseRead ExprStop) (ts : List Lexeme) (at : ℕ) → IfOk r (λ b. ReadAt (E (s.Base b.vector)) ts at b.next) → IfOk r (λ b. at < b.next) → IfOk r (λ b. BaseTree (between ts at b.next) b.base) → IfOk r (λ b. NoneAt (E (s.Base (not b.vector))) ts at b.next) → IfOk r (BaseAt ts at)
base_ok (Ok b) ts at r f m n = record { read = r; none = n; forth = f; tree = m }
base_ok (Err e) ts at r f m n = tt

pub base_out : (r : Result BaseRead ExprStop) (ts : List Lexeme) (at : ℕ) → IfErr r (BarredAt (E (s.Base true)) ts at) → IfErr r (RefusedAt (E (s.Base false)) ts at) → IfErr r (TypeOut s.Base ts at)
base_out (Ok b) ts at n r = tt
base_out (Err e) ts at n r = record { barred = n; out = r }

-- ---- members

struct_at : (ts : List Lexeme) (at : ℕ) (tag : Tag) → TagAt ts at tag → IsAt ts at t.Struct
struct_at ts at tag (bare c p n e b) = c
struct_at ts at tag (tagged name c n x p q e b) = c

behind_tag : (ts : List Lexeme) (at : ℕ) (tag : Tag) → TagAt ts at tag → at < tag.brace + 1
behind_tag ts at tag (bare c p n e b) = omega (arith, e)
behind_tag ts at tag (tagged name c n x p q e b) = omega (arith, e)

pub tag_within : (ts : List Lexeme) (at : ℕ) (tag : Tag) → EndsIn ts → TagAt ts at tag → tag.brace + 1 < length ts
tag_within ts at tag ends h = (struct_open ts at tag ends h).within

-- What bars a struct bars every type there.
struct_out : (ts : List Lexeme) (at : ℕ) (tag : Tag) (stop : ExprStop) → TagAt ts at tag → RefusedAt (E (s.Base false)) ts at stop → TypeOut s.Base ts at stop
struct_out ts at tag stop h r = record { barred = struct_barred ts at stop (struct_at ts at tag h) r; out = r }

-- Members were read so far, and another one begins behind them.
pub record MembersTo (ts : List Lexeme) (at start : ℕ) (m : Members) : Type 0 where
  pub next : MemberNext ts at m.next m.room
  pub begun : at < start
  pub forth : start ≤ m.next
  pub trees : MembersSoFar ts start m.next m.fields.items

pub members_begin : (ts : List Lexeme) (at : ℕ) (tag : Tag) (m : Members) → EndsIn ts → TagAt ts at tag → m.fields.items ≡ [] → m.room ≡ 65500 → m.next ≡ tag.brace + 1 → MembersTo ts at (tag.brace + 1) m
members_begin ts at tag m ends h e r n = record {
  next = subst (λ z. MemberNext ts at z m.room) (sym n) (member_next ts at (tag.brace + 1) m.room 65499 r (struct_open ts at tag ends h));
  begun = behind_tag ts at tag h;
  forth = omega (arith, n);
  trees = subst (λ z. MembersSoFar ts (tag.brace + 1) z m.fields.items) (sym n) (subst (MembersSoFar ts (tag.brace + 1) (tag.brace + 1)) (sym e) (members_start_tree ts (tag.brace + 1)));
}

pub members_within : (ts : List Lexeme) (at start : ℕ) (m : Members) → MembersTo ts at start m → m.next < length ts
members_within ts at start m h = h.next.goes.within

pub members_room : (ts : List Lexeme) (at start : ℕ) (m : Members) → MembersTo ts at start m → 0 < m.room
members_room ts at start m h = let e = h.next.is in omega (arith, e)

pub members_forth : (ts : List Lexeme) (at start : ℕ) (m : Members) → MembersTo ts at start m → at < m.next
members_forth ts at start m h = let a = h.begun in let b = h.forth in omega (arith, a, b)

-- Members were read, and none, or others, may stand behind them.
pub record MembersRead (ts : List Lexeme) (at start : ℕ) (m : Members) : Type 0 where
  pub goes_on : GoesOn (E (s.Base false)) (E (s.MayMembers m.room) ∷ Mark t.CloseBrace ∷ []) ts at m.next
  pub begun : at < start
  pub forth : start ≤ m.next
  pub trees : MembersSoFar ts start m.next m.fields.items
  pub all : MemberTrees (between ts start m.next) m.fields.items

pub member_behind : (ts : List Lexeme) (at start : ℕ) (m more : Members) (words : SpecRead) (names : Names) → MembersTo ts at start m → SpecAt ts m.next words → NamesAt ts m.room words.next names → FieldBehind m.fields.items words.spec names.list.items more.fields.items → more.room ≡ m.room - length names.list.items → more.next ≡ names.next → MembersRead ts at start more
member_behind ts at start m more words names h w n f r x =
    let b = n.close in
    let e : more.next ≡ b + 1 = x ∙ n.behind in
    let g = member_words words.vector ts at m.next m.room words.next h.next w.read w.none in
    let up : m.next ≤ words.next = w.read.read.forth in
    let over : words.next ≤ b = (let k = n.forth in omega (arith, k)) in
    let read : GoesOn (E (s.Base false)) (E (s.MayMembers more.room) ∷ Mark t.CloseBrace ∷ []) ts at more.next =
    subst (λ z. GoesOn (E (s.Base false)) (E (s.MayMembers more.room) ∷ Mark t.CloseBrace ∷ []) ts at z) (sym x) (subst (λ z. GoesOn (E (s.Base false)) (E (s.MayMembers z) ∷ Mark t.CloseBrace ∷ []) ts at names.next) (sym r)
    (goes (E (s.Base false)) (E (s.Names m.room)) (Mark t.CloseBrace ∷ []) (E (s.MayMembers (m.room - length names.list.items)) ∷ []) ts at words.next names.next (keeps_part (E (s.Base false)) (s.Names m.room) (Mark t.CloseBrace ∷ []) refl) g n.read)) in
    record {
      goes_on = read;
      begun = h.begun;
      forth = let p = h.forth in omega (arith, p, up, over, e);
      trees = subst (λ z. MembersSoFar ts start z more.fields.items) (sym e) (subst (MembersSoFar ts start (b + 1)) (sym f.added) (members_more_tree ts start m.next words.next b m.fields.items words.spec names.list.items f.field h.forth up over h.trees w.tree n.tree n.closes f.is));
      all = subst (λ z. MemberTrees (between ts start z) more.fields.items) (sym e) (subst (MemberTrees (between ts start (b + 1))) (sym f.added) (members_last_tree ts start m.next words.next b m.fields.items words.spec names.list.items f.field h.forth up over h.trees w.tree n.tree n.closes f.is));
    }

pub members_go_on : (ts : List Lexeme) (at start : ℕ) (m : Members) → MembersRead ts at start m → MemberAt ts m.next m.room → MembersTo ts at start m
members_go_on ts at start m h k =
    let p = positive m.room k.free in
    record {
      next = member_next ts at m.next m.room p.0 p.1 (member_here ts at m.next p.0 k.word (subst (λ z. GoesOn (E (s.Base false)) (E (s.MayMembers z) ∷ Mark t.CloseBrace ∷ []) ts at m.next) p.1 h.goes_on) k.stands k.begins);
      begun = h.begun;
      forth = h.forth;
      trees = h.trees;
    }

pub words_out : (ts : List Lexeme) (at start : ℕ) (tag : Tag) (m : Members) (stop : ExprStop) → TagAt ts at tag → MembersTo ts at start m → TypeOut s.Spec ts m.next stop → TypeOut s.Base ts at stop
words_out ts at start tag m stop h n r = struct_out ts at tag stop h (member_refused_words ts at m.next m.room stop n.next r.out r.barred)

pub names_out : (ts : List Lexeme) (at start : ℕ) (tag : Tag) (m : Members) (words : SpecRead) (stop : ExprStop) → TagAt ts at tag → MembersTo ts at start m → SpecAt ts m.next words → RefusedAt (E (s.Names m.room)) ts words.next stop → TypeOut s.Base ts at stop
names_out ts at start tag m words stop h n w r = struct_out ts at tag stop h (member_refused_names words.vector ts at m.next m.room words.next stop n.next w.read w.none r)

struct_base : (ts : List Lexeme) (at : ℕ) (tag : Tag) (m : Members) (b : BaseRead) → EndsIn ts → TagAt ts at tag → MembersRead ts at (tag.brace + 1) m → NoMemberAt ts m.next m.room → IsStruct b.base tag.name tag.place (Some m.fields.items) → b.vector ≡ false → IsAt ts m.next t.CloseBrace → b.next ≡ m.next + 1 → BaseAt ts at b
struct_base ts at tag m b ends h r k i v c n =
    let closed = struct_read ts at m.next ends (members_over ts at m.next m.room r.goes_on k) c in
    let up : at ≤ m.next = r.goes_on.forth in
    record {
      read = subst (λ z. ReadAt (E (s.Base z)) ts at b.next) (sym v) (subst (ReadAt (E (s.Base false)) ts at) (sym n) closed);
      none = subst (λ z. NoneAt (E (s.Base (not z))) ts at b.next) (sym v) (subst (NoneAt (E (s.Base true)) ts at) (sym n) (struct_no_vector ts at (m.next + 1) (struct_at ts at tag h) (omega (arith, up)) closed.read.within));
      forth = omega (arith, up, n);
      tree = subst (λ z. BaseTree (between ts at z) b.base) (sym n) (struct_tree ts at m.next tag m.fields.items b.base h r.forth r.all c i);
    }

pub struct_ok : (r : Result BaseRead ExprStop) (ts : List Lexeme) (at : ℕ) (tag : Tag) (m : Members) → EndsIn ts → TagAt ts at tag → MembersRead ts at (tag.brace + 1) m → NoMemberAt ts m.next m.room → IfOk r (λ b. IsStruct b.base tag.name tag.place (Some m.fields.items)) → IfOk r (λ b. b.vector ≡ false) → IfOk r (λ b. IsAt ts m.next t.CloseBrace) → IfOk r (λ b. b.next ≡ m.next + 1) → IfOk r (BaseAt ts at)
struct_ok (Ok b) ts at tag m ends h r k i v c n = struct_base ts at tag m b ends h r k i v c n
struct_ok (Err e) ts at tag m ends h r k i v c n = tt

pub struct_unclosed : (r : Result BaseRead ExprStop) (ts : List Lexeme) (at : ℕ) (tag : Tag) (m : Members) → TagAt ts at tag → MembersRead ts at (tag.brace + 1) m → NoMemberAt ts m.next m.room → IfErr r (RefusedAt (Mark t.CloseBrace) ts m.next) → IfErr r (TypeOut s.Base ts at)
struct_unclosed (Ok b) ts at tag m h r k o = tt
struct_unclosed (Err e) ts at tag m h r k o = struct_out ts at tag e h (struct_refused_close ts at m.next e (members_over ts at m.next m.room r.goes_on k) o)

-- ---- declared names

-- Names were read so far, and so many more may follow.
pub record NamesTo (ts : List Lexeme) (at room : ℕ) (n : Names) : Type 0 where
  pub left : ℕ
  pub count : left + length n.list.items ≡ room
  pub goes_on : GoesOn (E (s.Names room)) (E (s.BehindName left) ∷ []) ts at n.next
  pub forth : at < n.next
  pub trees : DeclorTrees (between ts at n.next) n.list.items

pub names_begin : (ts : List Lexeme) (at room : ℕ) (first : Declor × ℕ) (n : Names) → at < length ts → 0 < room → DeclorAt ts at first → n.list.items ≡ first.0 ∷ [] → n.next ≡ first.1 → NamesTo ts at room n
names_begin ts at room first n w h d e x =
    let p = positive room h in
    let one : length n.list.items ≡ 1 = ap length e in
    record {
      left = p.0;
      count = let q = p.1 in omega (arith, one, q);
      goes_on = subst (GoesOn (E (s.Names room)) (E (s.BehindName p.0) ∷ []) ts at) (sym x) (names_read room p.0 ts at first.1 w p.1 d.read);
      forth = let f = d.forth in omega (arith, f, x);
      trees = subst (λ z. DeclorTrees (between ts at z) n.list.items) (sym x) (subst (DeclorTrees (between ts at first.1)) (sym e) (names_start_tree ts at first.1 first.0 d.tree));
    }

pub names_first_out : (ts : List Lexeme) (at room : ℕ) (stop : ExprStop) → at < length ts → 0 < room → RefusedAt (E s.Declor) ts at stop → RefusedAt (E (s.Names room)) ts at stop
names_first_out ts at room stop w h r = names_refused room ts at stop w h r

room_left : (left count room : ℕ) → left + count ≡ room → count < room → 0 < left
room_left left count room e h = omega (arith, e, h)

one_longer : (names after : List Declor) (d : Declor) → after ≡ names ++ d ∷ [] → length after ≡ length names + 1
one_longer names after d e = ap length e ∙ length-append names (d ∷ [])

pub names_go_on : (ts : List Lexeme) (at room : ℕ) (n more : Names) (d : Declor × ℕ) → EndsIn ts → NamesTo ts at room n → length n.list.items < room → IsAt ts n.next t.Comma → DeclorAt ts (n.next + 1) d → more.list.items ≡ n.list.items ++ d.0 ∷ [] → more.next ≡ d.1 → NamesTo ts at room more
names_go_on ts at room n more d ends h k c m e x =
    let p = positive h.left (room_left h.left (length n.list.items) room h.count k) in
    let longer = one_longer n.list.items more.list.items d.0 e in
    let f = m.forth in
    let g = h.forth in
    record {
      left = p.0;
      count = let q = p.1 in let o = h.count in omega (arith, q, o, longer);
      goes_on = subst (GoesOn (E (s.Names room)) (E (s.BehindName p.0) ∷ []) ts at) (sym x) (names_more room h.left p.0 ts at n.next d.1 ends p.1 h.goes_on c m.read);
      forth = omega (arith, f, g, x);
      trees = subst (λ z. DeclorTrees (between ts at z) more.list.items) (sym x) (subst (DeclorTrees (between ts at d.1)) (sym e) (names_more_tree ts at n.next d.1 n.list.items d.0 (omega (arith, g)) (omega (arith, f)) h.trees c m.tree));
    }

pub names_next_out : (ts : List Lexeme) (at room : ℕ) (n : Names) (stop : ExprStop) → EndsIn ts → NamesTo ts at room n → length n.list.items < room → IsAt ts n.next t.Comma → RefusedAt (E s.Declor) ts (n.next + 1) stop → RefusedAt (E (s.Names room)) ts at stop
names_next_out ts at room n stop ends h k c r =
    let p = positive h.left (room_left h.left (length n.list.items) room h.count k) in
    names_refused_more room h.left p.0 ts at n.next stop ends p.1 h.goes_on c r

-- No other name follows: there is no room for one, or no comma.
pub data NoName (ts : List Lexeme) (room : ℕ) (n : Names) : Type 0 where
  full : room ≤ length n.list.items → NoName ts room n
  no_comma : OtherAt ts n.next t.Comma → NoName ts room n

record NoNameNext (ts : List Lexeme) (here left : ℕ) : Type 0 where
  next : Terminal
  stands : IsAt ts here next
  why : (left ≡ 0) ⊎ (next ≡ t.Comma → ⊥)

no_name_next : (ts : List Lexeme) (at room : ℕ) (n : Names) (h : NamesTo ts at room n) → NoName ts room n → NoNameNext ts n.next h.left
no_name_next ts at room n h (full o) =
    let k = some_token ts n.next h.goes_on.within in
    record { next = k.0; stands = k.1; why = inl (let e = h.count in omega (arith, e, o)) }
no_name_next ts at room n h (no_comma o) = record { next = o.other; stands = o.stands; why = inr o.differs }

pub names_close : (ts : List Lexeme) (at room : ℕ) (n closed : Names) → EndsIn ts → NamesTo ts at room n → NoName ts room n → IsAt ts n.next t.Semicolon → closed.list.items ≡ n.list.items → closed.next ≡ n.next + 1 → NamesAt ts room at closed
names_close ts at room n closed ends h o c e x =
    let k = no_name_next ts at room n h o in
    let q : h.left ≡ room - length closed.list.items = (let u = h.count in let v : length closed.list.items ≡ length n.list.items = ap length e in omega (arith, u, v)) in
    record {
      close = n.next;
      behind = x;
      read = subst (GoesOn (E (s.Names room)) (E (s.MayMembers (room - length closed.list.items)) ∷ []) ts at) (sym x) (subst (λ z. GoesOn (E (s.Names room)) (E (s.MayMembers z) ∷ []) ts at (n.next + 1)) q (names_done room h.left ts at n.next k.next ends h.goes_on k.stands k.why c));
      few = let u = h.count in let v : length closed.list.items ≡ length n.list.items = ap length e in omega (arith, u, v);
      forth = h.forth;
      tree = subst (DeclorTrees (between ts at n.next)) (sym e) h.trees;
      closes = c;
    }

pub names_unclosed : (ts : List Lexeme) (at room : ℕ) (n : Names) (stop : ExprStop) → NamesTo ts at room n → NoName ts room n → RefusedAt (Mark t.Semicolon) ts n.next stop → RefusedAt (E (s.Names room)) ts at stop
names_unclosed ts at room n stop h o r =
    let k = no_name_next ts at room n h o in
    names_refused_semicolon room h.left ts at n.next k.next stop h.goes_on k.stands k.why r

-- ---- lengths

-- Lengths were read up to an index behind a name.
pub record LengthsTo (ts : List Lexeme) (at start here : ℕ) (lengths : List (Option Expr)) : Type 0 where
  pub goes_on : GoesOn (E s.Declor) (E s.Lengths ∷ []) ts at here
  pub begun : at < start
  pub forth : start ≤ here
  pub trees : LengthTrees (between ts start here) lengths

pub lengths_begin : (ts : List Lexeme) (at start : ℕ) (lengths : List (Option Expr)) → GoesOn (E s.Declor) (E s.Lengths ∷ []) ts at start → at < start → lengths ≡ [] → LengthsTo ts at start start lengths
lengths_begin ts at start lengths g h e = record { goes_on = g; begun = h; forth = omega arith; trees = subst (LengthTrees (between ts start start)) (sym e) (lengths_start_tree ts start) }

pub lengths_forth : (ts : List Lexeme) (at start here : ℕ) (lengths : List (Option Expr)) → LengthsTo ts at start here lengths → at < here
lengths_forth ts at start here lengths n = let a = n.begun in let b = n.forth in omega (arith, a, b)

pub lengths_more_missing : (ts : List Lexeme) (at start here : ℕ) (lengths after : List (Option Expr)) → EndsIn ts → LengthsTo ts at start here lengths → IsAt ts here t.OpenBracket → IsAt ts (here + 1) t.CloseBracket → after ≡ lengths ++ None ∷ [] → LengthsTo ts at start (here + 2) after
lengths_more_missing ts at start here lengths after ends n o c e = record {
  goes_on = lengths_missing ts at here ends n.goes_on o c;
  begun = n.begun;
  forth = let k = n.forth in omega (arith, k);
  trees = subst (LengthTrees (between ts start (here + 2))) (sym e) (lengths_missing_tree ts start here lengths n.forth n.trees o c);
}

pub lengths_more_given : (ts : List Lexeme) (at start here next : ℕ) (size : Taken) (lengths after : List (Option Expr)) → EndsIn ts → LengthsTo ts at start here lengths → IsAt ts here t.OpenBracket → OtherAt ts (here + 1) t.CloseBracket → TakenAt s.Cond CondTree ts (here + 1) size → IsAt ts size.next t.CloseBracket → next ≡ size.next + 1 → after ≡ lengths ++ Some size.tree ∷ [] → LengthsTo ts at start next after
lengths_more_given ts at start here next size lengths after ends n o q m c x e =
    let up = m.forth in
    let k = n.forth in
    record {
      goes_on = subst (GoesOn (E s.Declor) (E s.Lengths ∷ []) ts at) (sym x) (lengths_given ts at here size.next ends n.goes_on o q m.read c);
      begun = n.begun;
      forth = omega (arith, k, up, x);
      trees = subst (λ z. LengthTrees (between ts start z) after) (sym x) (subst (LengthTrees (between ts start (size.next + 1))) (sym e) (lengths_given_tree ts start here size.next lengths size.tree n.forth (omega (arith, up)) n.trees o m.tree c));
    }

pub length_out : (ts : List Lexeme) (at start here : ℕ) (lengths : List (Option Expr)) (stop : ExprStop) → EndsIn ts → LengthsTo ts at start here lengths → IsAt ts here t.OpenBracket → OtherAt ts (here + 1) t.CloseBracket → RefusedAt (E s.Cond) ts (here + 1) stop → RefusedAt (E s.Declor) ts at stop
length_out ts at start here lengths stop ends n o q r = length_refused ts at here stop ends n.goes_on o q r

pub length_unclosed : (ts : List Lexeme) (at start here : ℕ) (size : Taken) (lengths : List (Option Expr)) (stop : ExprStop) → EndsIn ts → LengthsTo ts at start here lengths → IsAt ts here t.OpenBracket → OtherAt ts (here + 1) t.CloseBracket → TakenAt s.Cond CondTree ts (here + 1) size → RefusedAt (Mark t.CloseBracket) ts size.next stop → RefusedAt (E s.Declor) ts at stop
length_unclosed ts at start here size lengths stop ends n o q m r = length_refused_close ts at here size.next stop ends n.goes_on o q m.read r

pub declor_at : (ts : List Lexeme) (at here : ℕ) (head : Head) (d : Declor) (lengths : List (Option Expr)) → HeadAt ts at head → LengthsTo ts at head.next here lengths → OtherAt ts here t.OpenBracket → IsDeclor d head.star head.name head.place lengths → DeclorAt ts at (d, here)
declor_at ts at here head d lengths h n o i = record {
  read = declor_done ts at here n.goes_on o;
  forth = lengths_forth ts at head.next here lengths n;
  tree = declor_tree ts at here head d lengths n.forth h n.trees i;
}
