-- The parts of the grammar by what they begin with: each is one of some rows of symbols.
use Rattle.std.proofs.Common.{◌≡◌, ℕ, zero, suc, ◌+◌, ◌≤◌, List, [], ◌∷◌, ◌++◌, Bool, true, false, refl, sym, ap, ◌∙◌, subst, append_assoc, arith, ◌⊎◌, inl, inr}
use Rattle.std.specs.Prelude.{Option, Some, None}
use Rattle.std.proofs.lemmas.List.{append-nil}
use Rattle.cl_grammar.specs.declared.lexeme.Lexeme.{Lexeme}
use Rattle.cl_grammar.specs.declared.terminal.Terminal.{Terminal}
use Rattle.cl_grammar.specs.declared.terminal.Terminal.TheVariants as t
use Rattle.cl_grammar.specs.Terminals.{width_of, takes_int}
use Rattle.cl_grammar.specs.Expressions as x
use Rattle.cl_grammar.specs.Expressions.{IsA, AreQualifiers, ArePointerQualifiers, IsStar, MayBeStar, IsWidth, IsInteger, IsSpec, IsBase, AreMembers, AreDeclors, IsDeclor, AreLengths, IsTypeTerm, AreAssigns, IsAssign, IsCond, IsBin, IsCast, IsUnary, IsPostfix, AreSuffixes, IsPrimary}
use Rattle.cl_grammar.specs.Parts as p
use Rattle.cl_grammar.specs.Parts.{IsMoreAssigns, IsRow, IsChoice, IsBehindCast, IsBehindUnary, IsPlainCast, IsClosedCast, IsBehindVector, IsVectorCast, IsCasted, IsCastedAssign, IsUnaryAssign, IsTypeInBrackets, IsSized, IsArguments, MayBeCall, IsAnySpec, IsAnyType, MayBeWidth, MayBeInt, IsBody, MayBeBody, IsBehindStruct, IsMembersWithin, MayBeMembersWithin, IsBehindName, IsNamesWithin, IsLength}
use Rattle.cl_grammar.specs.Symbols as s
use Rattle.cl_grammar.specs.Symbols.{Sym, ExprSym, Class, Mark, Of, E, belongs, is_some, is_whole, is_lone, is_number, Is, IsE, Are}

-- the rows of symbols that a part may be
abbrev pub rules : ExprSym → List (List Sym)
rules s.Assigns = (E s.Assign ∷ E s.MoreAssigns ∷ []) ∷ []
rules s.MoreAssigns = [] ∷ (Mark t.Comma ∷ E s.Assigns ∷ []) ∷ []
rules s.Assign = (E s.UnaryAssign ∷ []) ∷ (E s.CastedAssign ∷ []) ∷ []
rules s.UnaryAssign = (E s.Unary ∷ E s.BehindUnary ∷ []) ∷ []
rules s.CastedAssign = (E s.Casted ∷ E s.BehindCast ∷ []) ∷ []
rules s.BehindUnary = (Of s.Assignment ∷ E s.Assign ∷ []) ∷ (E s.BehindCast ∷ []) ∷ []
rules s.BehindCast = (E s.Row ∷ E s.Choice ∷ []) ∷ []
rules s.Cond = (E s.Cast ∷ E s.BehindCast ∷ []) ∷ []
rules s.Bin = (E s.Cast ∷ E s.Row ∷ []) ∷ []
rules s.Row = [] ∷ (Of s.Binary ∷ E s.Bin ∷ []) ∷ []
rules s.Choice = [] ∷ (Mark t.Question ∷ E s.Assign ∷ Mark t.Colon ∷ E s.Cond ∷ []) ∷ []
rules s.Cast = (E s.Unary ∷ []) ∷ (E s.Casted ∷ []) ∷ []
rules s.Casted = (E s.PlainCast ∷ []) ∷ (E s.VectorCast ∷ []) ∷ []
rules s.PlainCast = (Mark t.OpenParen ∷ E (s.TypeTerm false) ∷ Mark t.CloseParen ∷ E s.Cast ∷ []) ∷ []
rules s.VectorCast = (Mark t.OpenParen ∷ E (s.TypeTerm true) ∷ Mark t.CloseParen ∷ E s.BehindVector ∷ []) ∷ []
rules s.BehindVector = (Mark t.OpenParen ∷ E s.Assigns ∷ Mark t.CloseParen ∷ []) ∷ (E s.ClosedCast ∷ []) ∷ []
rules s.ClosedCast = (E s.ClosedCast ∷ []) ∷ []
rules s.Unary = (E s.Postfix ∷ []) ∷ (Of s.BeforeIncrement ∷ E s.Unary ∷ []) ∷ (Of s.Prefix ∷ E s.Cast ∷ []) ∷ (Mark t.Sizeof ∷ E s.Sized ∷ []) ∷ []
rules s.Sized = (E s.TypeInBrackets ∷ []) ∷ (E s.Unary ∷ []) ∷ []
rules s.TypeInBrackets = (Mark t.OpenParen ∷ E s.AnyType ∷ Mark t.CloseParen ∷ []) ∷ []
rules s.Postfix = (E s.Primary ∷ E s.Suffixes ∷ []) ∷ []
rules s.Suffixes = [] ∷ (Mark t.OpenBracket ∷ E s.Assigns ∷ Mark t.CloseBracket ∷ E s.Suffixes ∷ []) ∷ (Of s.OfMember ∷ Mark t.Name ∷ E s.Suffixes ∷ []) ∷ (Of s.BehindIncrement ∷ E s.Suffixes ∷ []) ∷ []
rules s.Primary = (Mark t.Name ∷ E s.Call ∷ []) ∷ (Of s.Number ∷ []) ∷ (Mark t.OpenParen ∷ E s.Assigns ∷ Mark t.CloseParen ∷ []) ∷ []
rules s.Call = [] ∷ (Mark t.OpenParen ∷ E s.Arguments ∷ []) ∷ []
rules s.Arguments = (Mark t.CloseParen ∷ []) ∷ (E s.Assigns ∷ Mark t.CloseParen ∷ []) ∷ []
rules s.AnyType = (E (s.TypeTerm false) ∷ []) ∷ (E (s.TypeTerm true) ∷ []) ∷ []
rules (s.TypeTerm false) = (E (s.Spec false) ∷ E s.MayStar ∷ []) ∷ (E (s.Spec true) ∷ E s.Star ∷ []) ∷ []
rules (s.TypeTerm true) = (E (s.Spec true) ∷ []) ∷ []
rules s.AnySpec = (E (s.Spec false) ∷ []) ∷ (E (s.Spec true) ∷ []) ∷ []
rules (s.Spec vector) = (E s.Qualifiers ∷ E (s.Base vector) ∷ E s.Qualifiers ∷ []) ∷ []
rules s.Qualifiers = [] ∷ (Of s.Qualifier ∷ E s.Qualifiers ∷ []) ∷ []
rules (s.Base true) = (Of (s.Whole true) ∷ []) ∷ []
rules (s.Base false) = (Of (s.Whole false) ∷ []) ∷ (E s.Integer ∷ []) ∷ (Mark t.Struct ∷ E s.BehindStruct ∷ []) ∷ []
rules s.Integer = (Of s.Sign ∷ E s.MayWidth ∷ []) ∷ (E s.Width ∷ []) ∷ []
rules s.MayWidth = [] ∷ (E s.Width ∷ []) ∷ []
rules s.Width = (Of s.LoneWidth ∷ []) ∷ (Of s.LongWidth ∷ E s.MayInt ∷ []) ∷ []
rules s.MayInt = [] ∷ (Mark t.Int ∷ []) ∷ []
rules s.BehindStruct = (Mark t.Name ∷ E s.MayBody ∷ []) ∷ (E s.Body ∷ []) ∷ []
rules s.MayBody = [] ∷ (E s.Body ∷ []) ∷ []
rules s.Body = (Mark t.OpenBrace ∷ E (s.Members 65500) ∷ Mark t.CloseBrace ∷ []) ∷ []
rules (s.Members room) = (E s.AnySpec ∷ E (s.Names room) ∷ []) ∷ []
rules (s.MayMembers zero) = [] ∷ []
rules (s.MayMembers (suc room)) = [] ∷ (E (s.Members (suc room)) ∷ []) ∷ []
rules (s.Names zero) = []
rules (s.Names (suc room)) = (E s.Declor ∷ E (s.BehindName room) ∷ []) ∷ []
rules (s.BehindName zero) = (Mark t.Semicolon ∷ E (s.MayMembers zero) ∷ []) ∷ []
rules (s.BehindName (suc room)) = (Mark t.Semicolon ∷ E (s.MayMembers (suc room)) ∷ []) ∷ (Mark t.Comma ∷ E (s.Names (suc room)) ∷ []) ∷ []
rules s.Declor = (E s.MayStar ∷ Mark t.Name ∷ E s.Lengths ∷ []) ∷ []
rules s.MayStar = [] ∷ (E s.Star ∷ []) ∷ []
rules s.Star = (Mark t.Star ∷ E s.PointerQualifiers ∷ []) ∷ []
rules s.PointerQualifiers = [] ∷ (Of s.PointerQualifier ∷ E s.PointerQualifiers ∷ []) ∷ []
rules s.Lengths = [] ∷ (Mark t.OpenBracket ∷ E s.Length ∷ []) ∷ []
rules s.Length = (Mark t.CloseBracket ∷ E s.Lengths ∷ []) ∷ (E s.Cond ∷ Mark t.CloseBracket ∷ E s.Lengths ∷ []) ∷ []

-- tokens that a row of symbols stands for
pub record Fills (row : List Sym) (u : List Lexeme) : Type 0 where
  pub are : Are row u

-- tokens that one of some rows stands for
abbrev pub AnyOf : List (List Sym) → List Lexeme → Type 0
AnyOf [] u = ⊥
AnyOf (row ∷ rows) u = Fills row u ⊎ AnyOf rows u

-- ---- rows of symbols

pub nothing : Fills [] []
nothing = record { are = refl }

pub more : (y : Sym) (ys : List Sym) (u v : List Lexeme) → Is y u → Fills ys v → Fills (y ∷ ys) (u ++ v)
more y ys u v a b = record { are = (u, v, a, b.are, refl) }

pub mark : (k : Terminal) (ys : List Sym) (l : Lexeme) (v : List Lexeme) → IsA k l → Fills ys v → Fills (Mark k ∷ ys) (l ∷ v)
mark k ys l v a b = record { are = (l ∷ [], v, record { token = l; stands = a; alone = refl }, b.are, refl) }

pub one_of : (c : Class) (ys : List Sym) (l : Lexeme) (v : List Lexeme) → belongs c l.terminal ≡ true → Fills ys v → Fills (Of c ∷ ys) (l ∷ v)
one_of c ys l v a b = record { are = (l ∷ [], v, record { token = l; stands = a; alone = refl }, b.are, refl) }

pub last : (y : Sym) (u : List Lexeme) → Is y u → Fills (y ∷ []) u
last y u a = record { are = (u, [], a, refl, sym (append-nil u)) }

-- a symbol with what may stand behind it left out
pub alone : (y z : Sym) (u : List Lexeme) → Is y u → Is z [] → Fills (y ∷ z ∷ []) u
alone y z u a b = record { are = (u, [], a, ([], [], b, refl, refl), sym (append-nil u)) }

pub un_mark : (k : Terminal) (ys : List Sym) (u : List Lexeme) → Are (Mark k ∷ ys) u → (l : Lexeme) × (v : List Lexeme) × IsA k l × Are ys v × (u ≡ l ∷ v)
un_mark k ys u a = (a.2.token, a.1, a.2.stands, a.3, a.4 ∙ ap (λ z. z ++ a.1) a.2.alone)

pub un_one : (c : Class) (ys : List Sym) (u : List Lexeme) → Are (Of c ∷ ys) u → (l : Lexeme) × (v : List Lexeme) × (belongs c l.terminal ≡ true) × Are ys v × (u ≡ l ∷ v)
un_one c ys u a = (a.2.token, a.1, a.2.stands, a.3, a.4 ∙ ap (λ z. z ++ a.1) a.2.alone)

pub un_last : (y : Sym) (u : List Lexeme) → Are (y ∷ []) u → Is y u
un_last y u a = subst (Is y) (sym (a.4 ∙ ap (λ z. a.0 ++ z) a.3 ∙ append-nil a.0)) a.2

-- ---- classes

pub some_of : {A : Type 0} (o : Option A) → is_some o ≡ true → (a : A) × (o ≡ Some a)
some_of None h = absurd (let e : false ≡ true = h in cc)
some_of (Some a) h = (a, refl)

pub whole_is : (vector : Bool) (o : Option Bool) → is_whole vector o ≡ true → o ≡ Some vector
whole_is true None h = absurd (let e : false ≡ true = h in cc)
whole_is false None h = absurd (let e : false ≡ true = h in cc)
whole_is true (Some true) h = refl
whole_is true (Some false) h = absurd (let e : false ≡ true = h in cc)
whole_is false (Some true) h = absurd (let e : false ≡ true = h in cc)
whole_is false (Some false) h = refl

pub is_whole_of : (vector : Bool) (o : Option Bool) → o ≡ Some vector → is_whole vector o ≡ true
is_whole_of true o h = ap (is_whole true) h
is_whole_of false o h = ap (is_whole false) h

-- the two kinds of a width's word
pub width_word : (t : Terminal) (bits : ℕ) → width_of t ≡ Some bits → (is_lone t ≡ true) ⊎ (takes_int t ≡ true)
width_word t.Char bits h = inl refl
width_word t.Int bits h = inl refl
width_word t.Short bits h = inr refl
width_word t.Long bits h = inr refl
width_word _ bits h = absurd (let e : None ≡ Some bits = h in cc)

pub lone_width : (t : Terminal) → is_lone t ≡ true → (bits : ℕ) × (width_of t ≡ Some bits)
lone_width t.Char h = (8, refl)
lone_width t.Int h = (32, refl)
lone_width _ h = absurd (let e : false ≡ true = h in cc)

pub long_width : (t : Terminal) → takes_int t ≡ true → (bits : ℕ) × (width_of t ≡ Some bits)
long_width t.Short h = (16, refl)
long_width t.Long h = (64, refl)
long_width _ h = absurd (let e : false ≡ true = h in cc)

pub number_is : (k : Terminal) → is_number k ≡ true → (value ty : ℕ) × (k ≡ t.Number value ty)
number_is (t.Number value ty) h = (value, ty, refl)
number_is _ h = absurd (let e : false ≡ true = h in cc)

-- ---- members

members_wider : (room wider : ℕ) (u : List Lexeme) → room ≤ wider → MayBeMembersWithin room u → MayBeMembersWithin wider u
members_wider room wider _ h (p.no_members _) = p.no_members wider
members_wider room wider u h (p.some_members _ _ (p.members_within _ count _ a b)) = p.some_members wider u (p.members_within wider count u a (omega arith))

behind_of : (room : ℕ) (c : Lexeme) (w : List Lexeme) → IsA t.Comma c → IsNamesWithin (suc room) w → IsBehindName (suc room) (c ∷ w)
behind_of room c _ a (p.names_within _ u v d b) = p.names_go_on room c u v a d b

some_name : (count : ℕ) (v : List Lexeme) → AreDeclors count v → 1 ≤ count
some_name _ _ (x.last_declor u d) = omega arith
some_name _ _ (x.more_declors count c u v d comma ds) = omega arith

no_names : {A : Type 0} (count : ℕ) (v : List Lexeme) → AreDeclors count v → count ≤ 0 → A
no_names count v ds h = let k = some_name count v ds in absurd (omega arith)

pub some_member : (count : ℕ) (u : List Lexeme) → AreMembers count u → 1 ≤ count
some_member _ _ (x.last_member count vector s u v a b c) = some_name count v b
some_member _ _ (x.more_members count rest vector s u v w a b c d) = let k = some_name count v b in omega arith

names_of : (count rest room : ℕ) (v : List Lexeme) (s : Lexeme) (w : List Lexeme) → AreDeclors count v → IsA t.Semicolon s → MayBeMembersWithin rest w → count + rest ≤ room → IsNamesWithin room (v ++ s ∷ w)
names_of _ rest zero v s w (x.last_declor _ d) semi m h = absurd (omega arith)
names_of _ rest (suc room) v s w (x.last_declor _ d) semi m h = p.names_within room v (s ∷ w) d (p.names_end room s w semi (members_wider rest room w (omega arith) m))
names_of _ rest zero _ s w (x.more_declors count c u v d comma ds) semi m h = absurd (omega arith)
names_of _ rest (suc zero) _ s w (x.more_declors count c u v d comma ds) semi m h = no_names count v ds (omega arith)
names_of _ rest (suc (suc room)) _ s w (x.more_declors count c u v d comma ds) semi m h =
    subst (IsNamesWithin (suc (suc room))) (sym (append_assoc u (c ∷ v) (s ∷ w)))
    (p.names_within (suc room) u (c ∷ (v ++ s ∷ w)) d (behind_of room c (v ++ s ∷ w) comma (names_of count rest (suc room) v s w ds semi m (omega arith))))

pub members_are : (room count : ℕ) (u : List Lexeme) → AreMembers count u → count ≤ room → Fills (E s.AnySpec ∷ E (s.Names room) ∷ []) u
members_are room _ _ (x.last_member count vector z u v a b c) h = more _ _ u (v ++ z ∷ []) (p.any_spec vector u a) (last _ _ (names_of count 0 room v z [] b c (p.no_members 0) (omega arith)))
members_are room _ _ (x.more_members count rest vector s u v w a b c d) h = more _ _ u (v ++ s ∷ w) (p.any_spec vector u a) (last _ _ (names_of count rest room v s w b c (p.some_members rest w (p.members_within rest rest w d (omega arith))) h))

-- the declarators and members that stand behind a first one
pub record NamesRead (room : ℕ) (u : List Lexeme) : Type 0 where
  pub count : ℕ
  pub left : ℕ
  pub names : List Lexeme
  pub semicolon : Lexeme
  pub behind : List Lexeme
  pub are : AreDeclors count names
  pub ends : IsA t.Semicolon semicolon
  pub members : MayBeMembersWithin left behind
  pub fits : count + left ≤ room
  pub split : u ≡ names ++ semicolon ∷ behind

names_read : (room : ℕ) (d w : List Lexeme) → IsDeclor d → IsBehindName room w → NamesRead (suc room) (d ++ w)
names_read _ d _ a (p.names_end room s u b m) = record { count = 1; left = room; names = d; semicolon = s; behind = u; are = x.last_declor d a; ends = b; members = m; fits = omega arith; split = refl }
names_read _ d _ a (p.names_go_on room c u v b e more) =
    let r = names_read room u v e more in
    record { count = suc r.count; left = r.left; names = d ++ c ∷ r.names; semicolon = r.semicolon; behind = r.behind; are = x.more_declors r.count c d r.names a b r.are; ends = r.ends; members = r.members; fits = let f = r.fits in omega arith; split = ap (λ z. d ++ c ∷ z) r.split ∙ sym (append_assoc d (c ∷ r.names) (r.semicolon ∷ r.behind)) }

all_names : (room : ℕ) (u : List Lexeme) → IsNamesWithin room u → NamesRead room u
all_names _ _ (p.names_within room u v a b) = names_read room u v a b

members_with : (vector : Bool) (room left count : ℕ) (u names : List Lexeme) (s : Lexeme) (w : List Lexeme) → IsSpec vector u → AreDeclors count names → IsA t.Semicolon s → MayBeMembersWithin left w → count + left ≤ room → IsMembersWithin room (u ++ (names ++ s ∷ w))
members_with vector room left count u names s _ a b c (p.no_members _) h = p.members_within room count _ (x.last_member count vector s u names a b c) (omega arith)
members_with vector room left count u names s w a b c (p.some_members _ _ (p.members_within _ rest _ d e)) h = p.members_within room (count + rest) _ (x.more_members count rest vector s u names w a b c d) (omega arith)

pub members_of : (room : ℕ) (u w : List Lexeme) → IsAnySpec u → IsNamesWithin room w → IsMembersWithin room (u ++ w)
members_of room u w (p.any_spec vector _ a) n =
    let r = all_names room w n in
    subst (λ z. IsMembersWithin room (u ++ z)) (sym r.split) (members_with vector room r.left r.count u r.names r.semicolon r.behind a r.are r.ends r.members r.fits)

-- ---- rows of symbols taken apart

pub record Marked (k : Terminal) (ys : List Sym) (u : List Lexeme) : Type 0 where
  pub token : Lexeme
  pub rest : List Lexeme
  pub stands : IsA k token
  pub behind : Fills ys rest
  pub split : u ≡ token ∷ rest

pub record Chosen (c : Class) (ys : List Sym) (u : List Lexeme) : Type 0 where
  pub token : Lexeme
  pub rest : List Lexeme
  pub stands : belongs c token.terminal ≡ true
  pub behind : Fills ys rest
  pub split : u ≡ token ∷ rest

pub record Parted (y : Sym) (ys : List Sym) (u : List Lexeme) : Type 0 where
  pub part : List Lexeme
  pub rest : List Lexeme
  pub is : Is y part
  pub behind : Fills ys rest
  pub split : u ≡ part ++ rest

pub marked : (k : Terminal) (ys : List Sym) (u : List Lexeme) → Fills (Mark k ∷ ys) u → Marked k ys u
marked k ys u f = let a = un_mark k ys u f.are in record { token = a.0; rest = a.1; stands = a.2; behind = record { are = a.3 }; split = a.4 }

pub chosen : (c : Class) (ys : List Sym) (u : List Lexeme) → Fills (Of c ∷ ys) u → Chosen c ys u
chosen c ys u f = let a = un_one c ys u f.are in record { token = a.0; rest = a.1; stands = a.2; behind = record { are = a.3 }; split = a.4 }

pub parted : (y : Sym) (ys : List Sym) (u : List Lexeme) → Fills (y ∷ ys) u → Parted y ys u
parted y ys u f = let a = f.are in record { part = a.0; rest = a.1; is = a.2; behind = record { are = a.3 }; split = a.4 }

pub only : (y : Sym) (u : List Lexeme) → Fills (y ∷ []) u → Is y u
only y u f = un_last y u f.are
