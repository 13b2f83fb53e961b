-- The first offence of an expression: at the first node, in text order with operands before their operator, that breaks a rule, and of
-- several rules that this node breaks the one with the least code.
use Rattle.std.specs.Prelude.{◌≡◌, ℕ, Bool, true, false, List, [], ◌∷◌, ◌++◌, Option, Some, None}
use Rattle.clv_place.specs.declared.place.Place.{Place}
use Rattle.clv_place.specs.declared.stop.Offence.{Offence}
use Rattle.cl_types.specs.declared.types.ClType.{ClType}
use Rattle.cl_types.specs.declared.types.Member.{Member}
use Rattle.cl_types.specs.declared.types.TypeId.{TypeId}
use Rattle.cl_types.specs.declared.operator.UnOp.TheVariants as un
use Rattle.cl_builtins.specs.declared.call.Found.{Found}
use Rattle.cl_builtins.specs.Found.{Means, HasNoForm}
use Rattle.cl_builtins.specs.Names.{lookup, entries}
use Rattle.cl_ast.specs.declared.expression.Qual.{Qual}
use Rattle.cl_ast.specs.declared.expression.Expr.{Expr}
use Rattle.cl_ast.specs.declared.expression.ExprNode.{ExprNode}
use Rattle.cl_ast.specs.declared.expression.ExprNode.TheVariants as node
use Rattle.cl_ast.specs.declared.expression.TypeTerm.{TypeTerm}
use Rattle.cl_ast.specs.declared.expression.Spec.{Spec}
use Rattle.cl_ast.specs.declared.expression.Base.{Base}
use Rattle.cl_ast.specs.declared.expression.Base.TheVariants as base
use Rattle.cl_ast.specs.declared.expression.Field.{Field}
use Rattle.cl_ast.specs.declared.expression.Declor.{Declor}
use Rattle.cl_tree.specs.declared.shape.Shape.TheVariants as shape
use Rattle.cl_tree.specs.declared.expression.TExpr.{TExpr}
use Rattle.cl_tree.specs.Constants.{constancy_of, divides}
use Rattle.cl_tree.specs.Shapes.{is_vector, members_of}
use Rattle.cl_rules.specs.declared.rule.Operand.{Operand}
use Rattle.cl_rules.specs.declared.rule.Want.TheVariants as want
use Rattle.cl_rules.specs.declared.rule.Made.{Made}
use Rattle.cl_rules.specs.declared.rule.Judged.TheVariants.{Broken, Makes}
use Rattle.cl_rules.specs.declared.rule.Qualified.{Qualified}
use Rattle.cl_scope.specs.Names.{Env, find}
use Rattle.cl_rules.specs.Operands.{first_broken}
use Rattle.cl_rules.specs.Operators.{dereferenced}
use Rattle.cl_rules.specs.Parts.{member}
use Rattle.cl_rules.specs.Calls.{cast_rule, literal, no_size, size_tests}
use Rattle.cl_words.specs.declared.naming.Length.{Length}
use Rattle.cl_words.specs.Words.{has_member, sketch, member_tests, struct_tests}
use Rattle.cl_make.specs.Wanted.{IsDeclaredAs, IsWanted}
use Rattle.cl_type_expr.specs.Judging.{judge}
use Rattle.cl_make.specs.Building.{IsMade}
use Rattle.cl_type_expr.specs.Expressions.{first_left, tag_of, tagged, is_tag_again, is_value, is_typedef, is_complete, component_of, AreArguments, flags_fit, flag_divides, Types, AreTyped, IsTermOf, IsSpecified, AreMembers, AreNamed, AreLengths}
use Rattle.cl_type_expr.specs.Syntax.{IsExpr, IsSpec, IsTerm, IsField, IsDeclor, IsStruct}

-- an offence at a place
abbrev pub at : ℕ → Place → Offence
at code place = record { code = code; place = place }

-- nodes whose operands come first: before those of a cast or a vector literal stands a type, and `sizeof` of a type has none
pub record HoldsNoType (n : ExprNode) : Type 0 where
  pub no_cast : (term : TypeTerm) → n ≡ node.Cast term → ⊥
  pub no_vector : (term : TypeTerm) → n ≡ node.Vector term → ⊥
  pub no_size : (term : TypeTerm) → n ≡ node.SizeofType term → ⊥

mutual
  pub data Offends (cs : List ClType) : Env → Bool → Expr → Offence → Type 0 where
    -- 301: a name that declares no value
    unknown : (env after : Env) (left : Bool) (e : Expr) (place : Place) (text : List ℕ) (args : List Expr) (ts : List TExpr) (os : List Operand) → IsExpr e place (node.Name text) args → AreTyped cs env false args after ts os → is_value (find after text) ≡ false → Offends cs env left e (at 301 place)
    -- in an operand
    in_operands : (env : Env) (left : Bool) (e : Expr) (place : Place) (n : ExprNode) (args : List Expr) (o : Offence) → IsExpr e place n args → HoldsNoType n → SomeOffends cs env (first_left left n) args o → Offends cs env left e o
    -- the codes of `Rules`: 303, 306 to 318, 333
    operation : (env after : Env) (left : Bool) (e : Expr) (place : Place) (n : ExprNode) (args : List Expr) (ts : List TExpr) (os : List Operand) (code : ℕ) → IsExpr e place n args → AreTyped cs env (first_left left n) args after ts os → judge cs after left n os ≡ Some (Broken code) → Offends cs env left e (at code place)
    -- 313: `->` behind no pointer and no array
    no_pointer : (env after : Env) (left : Bool) (e : Expr) (place : Place) (name : List ℕ) (args : List Expr) (t : TExpr) (o : Operand) (code : ℕ) → IsExpr e place (node.Member name true) args → AreTyped cs env false args after (t ∷ []) (o ∷ []) → dereferenced o o.shape ≡ Broken code → Offends cs env left e (at code place)
    -- 306, 307: no such member or components behind `->`
    no_member : (env after : Env) (left : Bool) (e : Expr) (place : Place) (name : List ℕ) (args : List Expr) (t u : TExpr) (o p : Operand) (m : Made) (code : ℕ) → IsExpr e place (node.Member name true) args → AreTyped cs env false args after (t ∷ []) (o ∷ []) → dereferenced o o.shape ≡ Makes m → IsMade cs m place (t ∷ []) u p → member left (members_of cs p.facts.ty) name p ≡ Broken code → Offends cs env left e (at code place)
    -- 334: the index of a component divides by zero or out of range
    index_divides : (env after : Env) (left : Bool) (e : Expr) (place p : Place) (args : List Expr) (t i : TExpr) (o q : Operand) → IsExpr e place node.Index args → AreTyped cs env left args after (t ∷ i ∷ []) (o ∷ q ∷ []) → is_vector o.shape ≡ true → divides (constancy_of cs i) ≡ Some p → Offends cs env left e (at 334 p)
    -- 307: the index of a component is no constant, or past the vector
    no_component : (env after : Env) (left : Bool) (e : Expr) (place : Place) (args : List Expr) (t i : TExpr) (o q : Operand) → IsExpr e place node.Index args → AreTyped cs env left args after (t ∷ i ∷ []) (o ∷ q ∷ []) → is_vector o.shape ≡ true → divides (constancy_of cs i) ≡ None → component_of cs o i ≡ None → Offends cs env left e (at 307 place)
    -- 303: the size of void or of an array without its length
    no_size_of_value : (env after : Env) (left : Bool) (e : Expr) (place : Place) (args : List Expr) (t : TExpr) (o : Operand) → IsExpr e place (node.Unary un.Sizeof) args → AreTyped cs env false args after (t ∷ []) (o ∷ []) → no_size o ≡ true → Offends cs env left e (at 303 place)
    -- in a type in brackets
    in_size : (env : Env) (left : Bool) (e : Expr) (place : Place) (term : TypeTerm) (args : List Expr) (o : Offence) → IsExpr e place (node.SizeofType term) args → TermOffends cs env term o → Offends cs env left e o
    in_cast : (env : Env) (left : Bool) (e : Expr) (place : Place) (term : TypeTerm) (args : List Expr) (o : Offence) → IsExpr e place (node.Cast term) args → TermOffends cs env term o → Offends cs env left e o
    in_vector : (env : Env) (left : Bool) (e : Expr) (place : Place) (term : TypeTerm) (args : List Expr) (o : Offence) → IsExpr e place (node.Vector term) args → TermOffends cs env term o → Offends cs env left e o
    -- 303, 326: the size of such a type
    no_size_of_type : (env after : Env) (left : Bool) (e : Expr) (place : Place) (term : TypeTerm) (args : List Expr) (q : Qualified) (star : Option Bool) (code : ℕ) → IsExpr e place (node.SizeofType term) args → IsTermOf cs env term after q star → first_broken (size_tests q star) ≡ Some code → Offends cs env left e (at code place)
    -- in an operand behind a type
    in_cast_operands : (env middle : Env) (left : Bool) (e : Expr) (place : Place) (term : TypeTerm) (args : List Expr) (q : Qualified) (star : Option Bool) (o : Offence) → IsExpr e place (node.Cast term) args → IsTermOf cs env term middle q star → SomeOffends cs middle false args o → Offends cs env left e o
    in_vector_operands : (env middle : Env) (left : Bool) (e : Expr) (place : Place) (term : TypeTerm) (args : List Expr) (q : Qualified) (star : Option Bool) (o : Offence) → IsExpr e place (node.Vector term) args → IsTermOf cs env term middle q star → SomeOffends cs middle false args o → Offends cs env left e o
    -- 303, 311, 326, 333: a cast
    no_cast : (env middle after : Env) (left : Bool) (e : Expr) (place : Place) (term : TypeTerm) (args : List Expr) (q : Qualified) (star : Option Bool) (ts : List TExpr) (os : List Operand) (code : ℕ) → IsExpr e place (node.Cast term) args → IsTermOf cs env term middle q star → AreTyped cs middle false args after ts os → cast_rule q star os ≡ Broken code → Offends cs env left e (at code place)
    -- 311, 326, 331: a vector literal
    no_vector : (env middle after : Env) (left : Bool) (e : Expr) (place : Place) (term : TypeTerm) (args : List Expr) (q : Qualified) (star : Option Bool) (ts : List TExpr) (os : List Operand) (code : ℕ) → IsExpr e place (node.Vector term) args → IsTermOf cs env term middle q star → AreTyped cs middle false args after ts os → literal q star os ≡ Broken code → Offends cs env left e (at code place)
    -- 334: a flag of a fence divides by zero or out of range
    flag_out : (env after : Env) (left : Bool) (e : Expr) (place p : Place) (name : List ℕ) (args : List Expr) (ts : List TExpr) (os : List Operand) → IsExpr e place (node.Call name) args → AreTyped cs env false args after ts os → judge cs after left (node.Call name) os ≡ None → flag_divides cs name ts ≡ Some p → Offends cs env left e (at 334 p)
    -- 301: neither the unit nor the language has such a function
    no_function : (env after : Env) (left : Bool) (e : Expr) (place : Place) (name : List ℕ) (args : List Expr) (ts : List TExpr) (os : List Operand) → IsExpr e place (node.Call name) args → AreTyped cs env false args after ts os → judge cs after left (node.Call name) os ≡ None → lookup entries name ≡ None → Offends cs env left e (at 301 place)
    -- 329: no form of the built-in function fits
    no_form : (env after : Env) (left : Bool) (e : Expr) (place : Place) (name : List ℕ) (args : List Expr) (ts : List TExpr) (os : List Operand) (tys : List TypeId) → IsExpr e place (node.Call name) args → AreTyped cs env false args after ts os → judge cs after left (node.Call name) os ≡ None → flag_divides cs name ts ≡ None → AreArguments cs os tys → HasNoForm name cs tys → Offends cs env left e (at 329 place)
    -- 330: a fence's flag is not the constant 1, 2 or 3
    no_flag : (env after : Env) (left : Bool) (e : Expr) (place : Place) (name : List ℕ) (args : List Expr) (ts : List TExpr) (os : List Operand) (tys : List TypeId) (found : Found) → IsExpr e place (node.Call name) args → AreTyped cs env false args after ts os → judge cs after left (node.Call name) os ≡ None → flag_divides cs name ts ≡ None → AreArguments cs os tys → Means name cs tys cs found → flags_fit cs name ts ≡ false → Offends cs env left e (at 330 place)

  pub data SomeOffends (cs : List ClType) : Env → Bool → List Expr → Offence → Type 0 where
    in_first : (env : Env) (left : Bool) (e : Expr) (es : List Expr) (o : Offence) → Offends cs env left e o → SomeOffends cs env left (e ∷ es) o
    in_rest : (env middle : Env) (left : Bool) (e : Expr) (es : List Expr) (t : TExpr) (p : Operand) (o : Offence) → Types cs env left e middle t p → SomeOffends cs middle false es o → SomeOffends cs env left (e ∷ es) o

  pub data TermOffends (cs : List ClType) : Env → TypeTerm → Offence → Type 0 where
    in_type_words : (env : Env) (term : TypeTerm) (s : Spec) (star : Option (List Qual)) (o : Offence) → IsTerm term s star → WordsOffend cs env s o → TermOffends cs env term o

  pub data WordsOffend (cs : List ClType) : Env → Spec → Offence → Type 0 where
    in_base : (env : Env) (s : Spec) (quals : List Qual) (b : Base) (o : Offence) → IsSpec s quals b → BaseOffends cs env b o → WordsOffend cs env s o

  pub data BaseOffends (cs : List ClType) : Env → Base → Offence → Type 0 where
    -- 301: no type has this name, which stands in no text
    no_type : (env : Env) (name : List ℕ) (place : Place) → is_typedef (find env name) ≡ false → BaseOffends cs env (base.Named name place) (at 301 place)
    -- 305: a struct is unknown or not complete
    no_struct : (env : Env) (b : Base) (name : Option (List ℕ)) (place : Place) → IsStruct b name place None → is_complete (tag_of env name) ≡ false → BaseOffends cs env b (at 305 place)
    in_members : (env : Env) (b : Base) (name : Option (List ℕ)) (place : Place) (fields : List Field) (void : TypeId) (o : Offence) → IsStruct b name place (Some fields) → IsWanted cs (want.Of shape.Void) void → SomeMemberOffends cs (tagged name void false env) [] fields o → BaseOffends cs env b o
    -- 302, 501, 502: the struct itself
    broken_struct : (env after : Env) (b : Base) (name : Option (List ℕ)) (place : Place) (fields : List Field) (members : List Member) (void : TypeId) (code : ℕ) → IsStruct b name place (Some fields) → IsWanted cs (want.Of shape.Void) void → AreMembers cs (tagged name void false env) [] fields after members → first_broken (struct_tests cs members (is_tag_again env name)) ≡ Some code → BaseOffends cs env b (at code place)

  pub data SomeMemberOffends (cs : List ClType) : Env → List Member → List Field → Offence → Type 0 where
    in_field_words : (env : Env) (before : List Member) (f : Field) (fs : List Field) (s : Spec) (names : List Declor) (o : Offence) → IsField f s names → WordsOffend cs env s o → SomeMemberOffends cs env before (f ∷ fs) o
    in_field_names : (env typed : Env) (before : List Member) (f : Field) (fs : List Field) (s : Spec) (names : List Declor) (q : Qualified) (o : Offence) → IsField f s names → IsSpecified cs env s typed q → SomeNameOffends cs typed q before names o → SomeMemberOffends cs env before (f ∷ fs) o
    in_other_fields : (env typed middle : Env) (before between : List Member) (f : Field) (fs : List Field) (s : Spec) (names : List Declor) (q : Qualified) (o : Offence) → IsField f s names → IsSpecified cs env s typed q → AreNamed cs typed q before names middle between → SomeMemberOffends cs middle between fs o → SomeMemberOffends cs env before (f ∷ fs) o

  pub data SomeNameOffends (cs : List ClType) : Env → Qualified → List Member → List Declor → Offence → Type 0 where
    in_lengths : (env : Env) (q : Qualified) (before : List Member) (d : Declor) (ds : List Declor) (star : Option (List Qual)) (name : List ℕ) (place : Place) (es : List (Option Expr)) (o : Offence) → IsDeclor d star name place es → LengthOffends cs env false es o → SomeNameOffends cs env q before (d ∷ ds) o
    -- 302, 303, 304, 326, 501, 502: the member itself
    broken_member : (env after : Env) (q : Qualified) (before : List Member) (d : Declor) (ds : List Declor) (star : Option (List Qual)) (name : List ℕ) (place : Place) (es : List (Option Expr)) (ls : List Length) (code : ℕ) → IsDeclor d star name place es → AreLengths cs env false es after ls → first_broken (member_tests cs (sketch q star ls) (has_member name before)) ≡ Some code → SomeNameOffends cs env q before (d ∷ ds) (at code place)
    in_other_names : (env middle : Env) (q : Qualified) (before : List Member) (d : Declor) (ds : List Declor) (star : Option (List Qual)) (name : List ℕ) (place : Place) (es : List (Option Expr)) (ls : List Length) (t : TypeId) (o : Offence) → IsDeclor d star name place es → AreLengths cs env false es middle ls → first_broken (member_tests cs (sketch q star ls) (has_member name before)) ≡ None → IsDeclaredAs cs (sketch q star ls) 1 t → SomeNameOffends cs middle q (before ++ record { name = name; ty = t } ∷ []) ds o → SomeNameOffends cs env q before (d ∷ ds) o

  pub data LengthOffends (cs : List ClType) : Env → Bool → List (Option Expr) → Offence → Type 0 where
    in_length : (env : Env) (may_miss : Bool) (e : Expr) (es : List (Option Expr)) (o : Offence) → Offends cs env false e o → LengthOffends cs env may_miss (Some e ∷ es) o
    -- 334: a length divides by zero or out of range
    length_divides : (env after : Env) (may_miss : Bool) (e : Expr) (es : List (Option Expr)) (t : TExpr) (o : Operand) (p : Place) → Types cs env false e after t o → divides (constancy_of cs t) ≡ Some p → LengthOffends cs env may_miss (Some e ∷ es) (at 334 p)
    behind_missing : (env : Env) (may_miss : Bool) (es : List (Option Expr)) (o : Offence) → LengthOffends cs env false es o → LengthOffends cs env may_miss (None ∷ es) o
    behind_given : (env middle : Env) (may_miss : Bool) (e : Expr) (es : List (Option Expr)) (t : TExpr) (p : Operand) (o : Offence) → Types cs env false e middle t p → divides (constancy_of cs t) ≡ None → LengthOffends cs middle false es o → LengthOffends cs env may_miss (Some e ∷ es) o
