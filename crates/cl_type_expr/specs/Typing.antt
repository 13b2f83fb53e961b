-- What the calls that type expressions answer, each in the table that it leaves and in all that have more types: a caller that goes on
-- with a longer table needs no law that typing stays.
use Rattle.std.specs.Prelude.{◌≡◌, ℕ, ◌<◌, ◌⊎◌, Bool, true, false, List, [], ◌∷◌, ◌++◌, length, map, All, Option, Some, None}
use Rattle.clv_place.specs.declared.place.Place.{Place}
use Rattle.clv_place.specs.declared.stop.Offence.{Offence}
use Rattle.clv_place.specs.declared.stop.Stop.{Stop}
use Rattle.clv_place.specs.declared.stop.Stop.TheVariants.{Out, NoMemory}
use Rattle.cl_types.specs.declared.types.ClType.{ClType}
use Rattle.cl_types.specs.declared.types.ClType.TheVariants as ty
use Rattle.cl_types.specs.declared.types.Member.{Member}
use Rattle.cl_types.specs.declared.types.TypeId.{TypeId}
use Rattle.cl_types.specs.declared.stop.TypeStop.{TypeStop}
use Rattle.cl_types.specs.declared.stop.TypeStop.TheVariants.{TooLarge, TooDeep, NoMemory as NoRoom}
use Rattle.cl_builtins.specs.declared.call.Found.{Found}
use Rattle.cl_builtins.specs.Found.{IsKnown, AreKnown, Means, HasNoForm}
use Rattle.cl_builtins.specs.Names.{lookup, entries}
use Rattle.cl_builtins.specs.Tables.{IsAt}
use Rattle.cl_ast.specs.declared.expression.Qual.{Qual}
use Rattle.cl_ast.specs.declared.expression.Expr.{Expr}
use Rattle.cl_ast.specs.declared.expression.TypeTerm.{TypeTerm}
use Rattle.cl_ast.specs.declared.expression.Spec.{Spec}
use Rattle.cl_ast.specs.declared.expression.Base.{Base}
use Rattle.cl_ast.specs.declared.expression.Base.TheViews.{out-Expr, out-TypeTerm}
use Rattle.cl_ast.specs.declared.expression.Field.{Field}
use Rattle.cl_tree.specs.declared.shape.Shape.{Shape}
use Rattle.cl_tree.specs.Shapes.{shape_of, is_pointer, members_of}
use Rattle.cl_tree.specs.declared.expression.TExpr.{TExpr}
use Rattle.cl_tree.specs.Constants.{constancy_of, divides, positive_of}
use Rattle.cl_tree.specs.Units.{is_object}
use Rattle.cl_rules.specs.declared.rule.Judged.{Judged}
use Rattle.cl_rules.specs.declared.rule.Judged.TheVariants.{Broken, Makes}
use Rattle.cl_rules.specs.declared.rule.Made.{Made}
use Rattle.cl_rules.specs.declared.rule.Operand.{Operand}
use Rattle.cl_rules.specs.declared.rule.Qualified.{Qualified}
use Rattle.cl_rules.specs.declared.rule.Want.{Want}
use Rattle.cl_rules.specs.declared.rule.Want.TheVariants as want
use Rattle.cl_rules.specs.Operands.{first_broken}
use Rattle.cl_rules.specs.Parts.{member}
use Rattle.cl_scope.specs.Names.{Env}
use Rattle.cl_scope.specs.Scopes.{IsKnownEnv}
use Rattle.cl_words.specs.declared.naming.Length.{Length}
use Rattle.cl_words.specs.declared.naming.Length.TheVariants.{Long}
use Rattle.cl_words.specs.declared.naming.Sketch.{Sketch}
use Rattle.cl_words.specs.Words.{length_from, sketch, has_member, member_tests, declared_limits_at, struct_tests, name_or_none}
use Rattle.cl_make.specs.declared.typed.Typed.{Typed}
use Rattle.cl_make.specs.Answered.{IsMadeOf}
use Rattle.cl_make.specs.Ready.{From, IsReady, AreReady, IsReadyOperand, IsReadyType, tree_of, operand_in}
use Rattle.cl_make.specs.Wanted.{IsAsked, IsAskableShape, IsDeclaredAs}
use Rattle.cl_type_expr.specs.Expressions.{first_left, Types, AreTyped, AreArguments, IsSpecified, IsBase, AreMembers, AreLengths}
use Rattle.cl_type_expr.specs.Offences.{at, Offends, SomeOffends, WordsOffend, BaseOffends, SomeMemberOffends, LengthOffends}

-- ---- what is typed

abbrev pub AreTypedAs : List ClType → Env → Bool → List Expr → Env → List Typed → Type 0
AreTypedAs cs env left es after rs = AreTyped cs env left es after (map tree_of rs) (map operand_in rs)

-- an expression is typed, and what is declared behind it is in the table
pub record IsTypedAs (cs : List ClType) (env : Env) (left : Bool) (e : Expr) (after : Env) (r : Typed) : Type 0 where
  pub types : From cs (λ more. Types more env left e after r.tree r.operand)
  pub ready : IsReady cs r
  pub known : IsKnownEnv cs after

pub record OperandsAre (cs : List ClType) (env : Env) (left : Bool) (es : List Expr) (after : Env) (rs : List Typed) : Type 0 where
  pub types : From cs (λ more. AreTypedAs more env left es after rs)
  pub ready : AreReady cs rs
  pub known : IsKnownEnv cs after

pub record WordsAre (cs : List ClType) (env : Env) (s : Spec) (after : Env) (q : Qualified) : Type 0 where
  pub words : From cs (λ more. IsSpecified more env s after q)
  pub ready : IsReadyType cs q
  pub known : IsKnownEnv cs after

-- ---- why typing stops

abbrev pub StopsIn : List ClType → Env → Bool → Expr → Stop → Type 0
StopsIn cs env left e (Out o) = From cs (λ more. Offends more env left e o)
StopsIn cs env left e NoMemory = Unit {0}

abbrev pub SomeStops : List ClType → Env → Bool → List Expr → Stop → Type 0
SomeStops cs env left es (Out o) = From cs (λ more. SomeOffends more env left es o)
SomeStops cs env left es NoMemory = Unit {0}

abbrev pub WordsStop : List ClType → Env → Spec → Stop → Type 0
WordsStop cs env s (Out o) = From cs (λ more. WordsOffend more env s o)
WordsStop cs env s NoMemory = Unit {0}

-- ---- what a node's rule makes of its operands, wherever these were typed

-- a node whose operands are these
pub record NodeIs (cs : List ClType) (after : Env) (left : Bool) (e : Expr) (rs : List Typed) (r : Typed) : Type 0 where
  pub types : From cs (λ more. (env : Env) → AreTypedAs more env (first_left left (out-Expr e).node) (out-Expr e).args.items after rs → Types more env left e after r.tree r.operand)
  pub ready : IsReady cs r

abbrev pub NodeStops : List ClType → Env → Bool → Expr → List Typed → Stop → Type 0
NodeStops cs after left e rs (Out o) = From cs (λ more. (env : Env) → AreTypedAs more env (first_left left (out-Expr e).node) (out-Expr e).args.items after rs → Offends more env left e o)
NodeStops cs after left e rs NoMemory = Unit {0}

-- the same behind a type in brackets
pub record TermNodeIs (cs : List ClType) (after : Env) (left : Bool) (e : Expr) (term : TypeTerm) (q : Qualified) (rs : List Typed) (r : Typed) : Type 0 where
  pub types : From cs (λ more. (env middle : Env) → IsSpecified more env (out-TypeTerm term).spec middle q → AreTypedAs more middle false (out-Expr e).args.items after rs → Types more env left e after r.tree r.operand)
  pub ready : IsReady cs r

abbrev pub TermNodeStops : List ClType → Env → Bool → Expr → TypeTerm → Qualified → List Typed → Stop → Type 0
TermNodeStops cs after left e term q rs (Out o) = From cs (λ more. (env middle : Env) → IsSpecified more env (out-TypeTerm term).spec middle q → AreTypedAs more middle false (out-Expr e).args.items after rs → Offends more env left e o)
TermNodeStops cs after left e term q rs NoMemory = Unit {0}

-- what is asked of the table where a rule makes a node of so many operands
abbrev pub JudgedAsks : List ClType → ℕ → Judged → Type 0
JudgedAsks cs count (Broken code) = Unit {0}
JudgedAsks cs count (Makes m) = IsAsked cs m count

-- the node that a rule makes, or the code that it breaks
pub record JudgedIs (cs : List ClType) (j : Judged) (place : Place) (rs : List Typed) (r : Typed) : Type 0 where
  pub rule : Made
  pub judged : j ≡ Makes rule
  pub made : IsMadeOf cs rule place rs r

abbrev pub JudgedStops : Judged → Place → Stop → Type 0
JudgedStops j place (Out o) = (o.place ≡ place) × (j ≡ Broken o.code)
JudgedStops j place NoMemory = Unit {0}

-- the size of a type in brackets
pub record SizeIs (cs : List ClType) (after : Env) (left : Bool) (e : Expr) (term : TypeTerm) (q : Qualified) (r : Typed) : Type 0 where
  pub types : From cs (λ more. (env : Env) → IsSpecified more env (out-TypeTerm term).spec after q → Types more env left e after r.tree r.operand)
  pub ready : IsReady cs r

abbrev pub SizeStops : List ClType → Env → Bool → Expr → TypeTerm → Qualified → Stop → Type 0
SizeStops cs after left e term q (Out o) = From cs (λ more. (env : Env) → IsSpecified more env (out-TypeTerm term).spec after q → Offends more env left e o)
SizeStops cs after left e term q NoMemory = Unit {0}

-- a member of a typed operand, behind `.` or of what `->` leads to
pub record MemberIs (cs : List ClType) (place : Place) (left : Bool) (name : List ℕ) (whole r : Typed) : Type 0 where
  pub rule : Made
  pub judged : From cs (λ more. member left (members_of more whole.operand.facts.ty) name whole.operand ≡ Makes rule)
  pub made : IsMadeOf cs rule place (whole ∷ []) r

abbrev pub MemberStops : List ClType → Place → Bool → List ℕ → Typed → Stop → Type 0
MemberStops cs place left name whole (Out o) = (o.place ≡ place) × From cs (λ more. member left (members_of more whole.operand.facts.ty) name whole.operand ≡ Broken o.code)
MemberStops cs place left name whole NoMemory = Unit {0}

-- ---- calls of built-in functions

abbrev pub AreReadyOperands : List ClType → List Operand → Type 0
AreReadyOperands cs os = All (IsReadyOperand cs) os

-- what a call of operands means
pub record IsFoundAt (cs : List ClType) (name : List ℕ) (os : List Operand) (found : Found) : Type 0 where
  pub args : List TypeId
  pub wanted : From cs (λ more. AreArguments more os args)
  pub means : From cs (λ more. Means name more args more found)
  pub params : AreKnown cs found.params
  pub result : IsKnown cs found.result
  pub each : length found.params ≡ length os

-- that the language has no such function, or none that takes these
abbrev pub HasNoFunction : List ℕ → Offence → Place → Type 0
HasNoFunction name o place = (o ≡ at 301 place) × (lookup entries name ≡ None)

pub record FitsNoForm (cs : List ClType) (name : List ℕ) (os : List Operand) (o : Offence) (place : Place) : Type 0 where
  pub code : o ≡ at 329 place
  pub args : List TypeId
  pub wanted : From cs (λ more. AreArguments more os args)
  pub unfit : From cs (λ more. HasNoForm name more args)

abbrev pub FoundStops : List ClType → List ℕ → Place → List Operand → Stop → Type 0
FoundStops cs name place os (Out o) = HasNoFunction name o place ⊎ FitsNoForm cs name os o place
FoundStops cs name place os NoMemory = Unit {0}

-- ---- the types of declared names and of members

-- the base of a type's words
pub record BaseIs (cs : List ClType) (env : Env) (b : Base) (after : Env) (q : Qualified) : Type 0 where
  pub base : From cs (λ more. IsBase more env b after q)
  pub ready : IsReadyType cs q
  pub known : IsKnownEnv cs after

abbrev pub BaseStops : List ClType → Env → Base → Stop → Type 0
BaseStops cs env b (Out o) = From cs (λ more. BaseOffends more env b o)
BaseStops cs env b NoMemory = Unit {0}

-- the types of members are in the table, and allowed there
pub record IsReadyMember (cs : List ClType) (m : Member) : Type 0 where
  pub known : IsKnown cs m.ty
  pub object : is_object (shape_of cs m.ty) ≡ true

abbrev pub AreReadyMembers : List ClType → List Member → Type 0
AreReadyMembers cs [] = Unit {0}
AreReadyMembers cs (m ∷ ms) = IsReadyMember cs m × AreReadyMembers cs ms

pub record MembersAre (cs : List ClType) (env : Env) (before : List Member) (fs : List Field) (after : Env) (all : List Member) : Type 0 where
  pub members : From cs (λ more. AreMembers more env before fs after all)
  pub ready : AreReadyMembers cs all
  pub known : IsKnownEnv cs after

abbrev pub MembersStop : List ClType → Env → List Member → List Field → Stop → Type 0
MembersStop cs env before fs (Out o) = From cs (λ more. SomeMemberOffends more env before fs o)
MembersStop cs env before fs NoMemory = Unit {0}

-- the members of one type behind others, before whatever members are behind them
pub record FieldIs (cs : List ClType) (env : Env) (before : List Member) (f : Field) (after : Env) (all : List Member) : Type 0 where
  pub members : From cs (λ more. (last : Env) (fs : List Field) (whole : List Member) → AreMembers more after all fs last whole → AreMembers more env before (f ∷ fs) last whole)
  pub stops : From cs (λ more. (fs : List Field) (o : Offence) → SomeMemberOffends more after all fs o → SomeMemberOffends more env before (f ∷ fs) o)
  pub ready : AreReadyMembers cs all
  pub known : IsKnownEnv cs after

abbrev pub FieldStops : List ClType → Env → List Member → Field → Stop → Type 0
FieldStops cs env before f (Out o) = From cs (λ more. (fs : List Field) → SomeMemberOffends more env before (f ∷ fs) o)
FieldStops cs env before f NoMemory = Unit {0}

-- a length that is written is above 0
abbrev pub IsPositive : Length → Type 0
IsPositive (Long n) = 0 < n
IsPositive _ = Unit {0}

abbrev pub ArePositive : List Length → Type 0
ArePositive [] = Unit {0}
ArePositive (l ∷ ls) = IsPositive l × ArePositive ls

pub record LengthsAre (cs : List ClType) (env : Env) (may_miss : Bool) (es : List (Option Expr)) (after : Env) (ls : List Length) : Type 0 where
  pub lengths : From cs (λ more. AreLengths more env may_miss es after ls)
  pub positive : ArePositive ls
  pub known : IsKnownEnv cs after

abbrev pub LengthsStop : List ClType → Env → Bool → List (Option Expr) → Stop → Type 0
LengthsStop cs env may_miss es (Out o) = From cs (λ more. LengthOffends more env may_miss es o)
LengthsStop cs env may_miss es NoMemory = Unit {0}

-- the length that a typed expression says
pub record IsLengthOf (cs : List ClType) (t : TExpr) (l : Length) : Type 0 where
  pub whole : From cs (λ more. divides (constancy_of more t) ≡ None)
  pub is : From cs (λ more. l ≡ length_from (positive_of more t))
  pub positive : IsPositive l

abbrev pub LengthOfStops : List ClType → TExpr → Stop → Type 0
LengthOfStops cs t (Out o) = (o.code ≡ 334) × From cs (λ more. divides (constancy_of more t) ≡ Some o.place)
LengthOfStops cs t NoMemory = Unit {0}

-- a length, written or missing, before whatever lengths are behind it
pub record LengthIs (cs : List ClType) (env : Env) (may_miss : Bool) (one : Option Expr) (after : Env) (l : Length) : Type 0 where
  pub lengths : From cs (λ more. (last : Env) (es : List (Option Expr)) (ls : List Length) → AreLengths more after false es last ls → AreLengths more env may_miss (one ∷ es) last (l ∷ ls))
  pub stops : From cs (λ more. (es : List (Option Expr)) (o : Offence) → LengthOffends more after false es o → LengthOffends more env may_miss (one ∷ es) o)
  pub positive : IsPositive l
  pub known : IsKnownEnv cs after

abbrev pub LengthStops : List ClType → Env → Bool → Option Expr → Stop → Type 0
LengthStops cs env may_miss one (Out o) = From cs (λ more. (es : List (Option Expr)) → LengthOffends more env may_miss (one ∷ es) o)
LengthStops cs env may_miss one NoMemory = Unit {0}

-- What a declared name is before its lengths: a type of the table, or a pointer that it can take.
abbrev pub IsReadyWant : List ClType → Want → Shape → Type 0
IsReadyWant cs want.Own s = ⊥
IsReadyWant cs (want.Type t) s = IsKnown cs t × (s ≡ shape_of cs t)
IsReadyWant cs (want.Of u) s = IsAskableShape cs u × (is_pointer u ≡ true) × (s ≡ u)

abbrev pub IsReadySketch : List ClType → Sketch → Type 0
IsReadySketch cs k = IsReadyWant cs k.of k.shape

-- the type of a declared name, of what it says; or why there is none: the code of a limit, of which 501 comes first
pub record DeclaredIs (cs : List ClType) (k : Sketch) (first : ℕ) (t : TypeId) : Type 0 where
  pub is : From cs (λ more. IsDeclaredAs more k first t)
  pub known : IsKnown cs t
  pub fits : From cs (λ more. first_broken (declared_limits_at more k first) ≡ None)

abbrev pub DeclaredStops : List ClType → Sketch → ℕ → TypeStop → Type 0
DeclaredStops cs k first TooLarge = From cs (λ more. first_broken (declared_limits_at more k first) ≡ Some 501)
DeclaredStops cs k first TooDeep = From cs (λ more. first_broken (declared_limits_at more k first) ≡ Some 502)
DeclaredStops cs k first NoRoom = Unit {0}

-- a struct of these members, or the code that it breaks
pub record StructIs (cs : List ClType) (name : Option (List ℕ)) (again : Bool) (members : List Member) (t : TypeId) : Type 0 where
  pub at : From cs (λ more. IsAt more (ty.Struct (name_or_none name) members) t)
  pub fits : From cs (λ more. first_broken (struct_tests more members again) ≡ None)

abbrev pub StructStops : List ClType → Place → Bool → List Member → Stop → Type 0
StructStops cs place again members (Out o) = (o.place ≡ place) × From cs (λ more. first_broken (struct_tests more members again) ≡ Some o.code)
StructStops cs place again members NoMemory = Unit {0}

-- a member behind others, from its type's words, its `*` and its lengths
pub record MemberIsNamed (cs : List ClType) (q : Qualified) (star : Option (List Qual)) (ls : List Length) (name : List ℕ) (before after : List Member) : Type 0 where
  pub ty : TypeId
  pub fits : From cs (λ more. first_broken (member_tests more (sketch q star ls) (has_member name before)) ≡ None)
  pub is : From cs (λ more. IsDeclaredAs more (sketch q star ls) 1 ty)
  pub behind : after ≡ before ++ record { name = name; ty = ty } ∷ []
  pub ready : AreReadyMembers cs after

abbrev pub MemberNameStops : List ClType → Qualified → Option (List Qual) → List Length → List ℕ → Place → List Member → Stop → Type 0
MemberNameStops cs q star ls name place before (Out o) = (o.place ≡ place) × From cs (λ more. first_broken (member_tests more (sketch q star ls) (has_member name before)) ≡ Some o.code)
MemberNameStops cs q star ls name place before NoMemory = Unit {0}
