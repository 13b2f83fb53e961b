-- What the trees of the grammar say, and what stands behind their parts.
use Rattle.std.specs.Global.{Vec}
use Rattle.std.proofs.Common.{◌≡◌, ℕ, true, false, List, [], ◌∷◌, ◌++◌, map, Option, Some, None, ap, ◌∙◌, subst}
use Rattle.clv_place.specs.declared.place.Place.{Place}
use Rattle.cl_ast.specs.declared.expression.Qual.{Qual}
use Rattle.cl_ast.specs.declared.expression.Expr.{Expr}
use Rattle.cl_ast.specs.declared.expression.ExprNode.{ExprNode}
use Rattle.cl_ast.specs.declared.expression.Base.{Base}
use Rattle.cl_ast.specs.declared.expression.Base.TheVariants as base
use Rattle.cl_ast.specs.declared.expression.Field.{Field}
use Rattle.cl_ast.specs.declared.expression.Declor.{Declor}
use Rattle.cl_grammar.specs.declared.lexeme.Lexeme.{Lexeme}
use Rattle.cl_grammar.specs.declared.terminal.Terminal.{Terminal}
use Rattle.cl_grammar.specs.declared.terminal.Terminal.TheVariants as t
use Rattle.cl_grammar.specs.Terminals.{qualifier_of, width_of}
use Rattle.cl_grammar.specs.Expressions.{is_open, begins_open}
use Rattle.cl_grammar.specs.ExpressionTrees
use Rattle.cl_grammar.specs.ExpressionTrees.{IsExpr, IsStruct, items_of, Qualify, StarOf, IntegerOf, DeclorTree, DeclorTrees, type_of_word}
use Rattle.cl_plain.specs.Plain.{Plain, expr, word, tag, struct, over, leaf, plain_expr, plain_node, plain_base, plain_field}
use Rattle.cl_plain.proofs.PlainParts.{expr_of, void_base, bool_base, int_base, vector_base, sized_base, named_base, tag_base, struct_base}
use Rattle.cl_plain.proofs.Reading.{first_is, is_spec_end, is_star_end, is_declor_end}
use Rattle.cl_plain.proofs.ReadMarks.{first, is_int, is_open_brace, is_semicolon, is_comma, begins_expr, first_more, first_implies, first_excludes, qualifier_no_width, qualifier_no_int, qualifier_no_brace, no_width, no_int, no_brace, spec_behind, semicolon_ends_declor, semicolon_no_comma}

pub node_said : (e : Expr) (place : Place) (n : ExprNode) (args : List Expr) (k : Plain) → IsExpr e place n args → plain_node n ≡ k → plain_expr e ≡ over (expr place) (k ∷ map plain_expr args)
node_said e place n args k h is = expr_of e place n args h.at h.is h.has ∙ ap (λ z. over (expr place) (z ∷ map plain_expr args)) is

is_word : (b c : Base) → b ≡ c → plain_base b ≡ leaf (word b) → plain_base c ≡ leaf (word c)
is_word b c e h = subst (λ z. plain_base z ≡ leaf (word z)) e h

pub word_said : (l : Lexeme) (b : Base) (k : Terminal) → type_of_word l k ≡ Some b → plain_base b ≡ leaf (word b)
word_said l b t.Void h = is_word base.Void b (cc) void_base
word_said l b t.Bool h = is_word base.Bool b (cc) bool_base
word_said l b (t.UnsignedInt bits) h = is_word (base.Int bits false) b (cc) (int_base bits false)
word_said l b (t.Vector bits signed n) h = is_word (base.Vector bits signed n) b (cc) (vector_base bits signed n)
word_said l b (t.Sized signed) h = is_word (base.Sized signed) b (cc) (sized_base signed)
word_said l b (t.TypeName vector) h = is_word (base.Named l.text l.place) b (cc) (named_base l.text l.place)
word_said l b _ h = cc

pub integer_said : (u : List Lexeme) (b : Base) → IntegerOf u b → plain_base b ≡ leaf (word b)
integer_said _ _ (ExpressionTrees.IntegerOf.plain u bits h) = int_base bits true
integer_said _ _ (ExpressionTrees.IntegerOf.with_sign s signed u bits h k) = int_base bits signed
integer_said _ _ (ExpressionTrees.IntegerOf.sign s signed h) = int_base 32 signed

tag_is : (b : Base) (name : Option (List ℕ)) (place : Place) (declared : Option (Vec Field)) → b ≡ base.Struct name place declared → items_of declared ≡ None → plain_base b ≡ leaf (tag name place)
tag_is b name place None e h = ap plain_base e ∙ tag_base name place
tag_is b name place (Some v) e h = cc

pub tag_said : (b : Base) (name : Option (List ℕ)) (place : Place) → IsStruct b name place None → plain_base b ≡ leaf (tag name place)
tag_said b name place h = tag_is b name place h.declared h.is h.has

struct_is : (b : Base) (name : Option (List ℕ)) (place : Place) (declared : Option (Vec Field)) (fields : List Field) → b ≡ base.Struct name place declared → items_of declared ≡ Some fields → plain_base b ≡ over (struct name place) (map plain_field fields)
struct_is b name place None fields e h = cc
struct_is b name place (Some v) fields e h = let k : v.items ≡ fields = cc in ap plain_base e ∙ struct_base name place v ∙ ap (λ z. over (struct name place) (map plain_field z)) k

pub struct_said : (b : Base) (name : Option (List ℕ)) (place : Place) (fields : List Field) → IsStruct b name place (Some fields) → plain_base b ≡ over (struct name place) (map plain_field fields)
struct_said b name place fields h = struct_is b name place h.declared fields h.is h.has

-- ---- what stands behind parts

-- what may stand behind a base
pub record BaseEnd (r : List Lexeme) : Type 0 where
  pub width : first width_of r ≡ None
  pub int : first_is is_int r ≡ false
  pub brace : first_is is_open_brace r ≡ false

pub base_end : (w : List Lexeme) (qs : List Qual) (r : List Lexeme) → Qualify qualifier_of w qs → first_is is_spec_end r ≡ true → BaseEnd (w ++ r)
base_end [] qs r h e = record { width = no_width r e; int = no_int r e; brace = no_brace r e }
base_end (l ∷ ls) [] r h e = absurd h
base_end (l ∷ ls) (q ∷ qs) r h e = record { width = qualifier_no_width q l.terminal h.0; int = qualifier_no_int q l.terminal h.0; brace = qualifier_no_brace q l.terminal h.0 }

pub star_first : (v : List Lexeme) (star : Option (List Qual)) (r : List Lexeme) → StarOf v star → first_is is_star_end r ≡ true → first_is is_spec_end (v ++ r) ≡ true
star_first _ _ r ExpressionTrees.StarOf.none e = spec_behind r e
star_first _ _ r (ExpressionTrees.StarOf.some s u qs h k) e = ap is_spec_end h

pub declor_first : (u : List Lexeme) (d : Declor) → DeclorTree u d → first_is is_spec_end u ≡ true
declor_first _ _ (ExpressionTrees.DeclorTree.declor n u v star lengths d h0 h1 h2 h3) = star_first u star (n ∷ v) h0 (ap is_star_end h1)

pub declors_first : (u : List Lexeme) (ds : List Declor) (r : List Lexeme) → DeclorTrees u ds → first_is is_spec_end (u ++ r) ≡ true
declors_first _ _ r (ExpressionTrees.DeclorTrees.last_declor u d h) = first_more is_spec_end u r (declor_first u d h)
declors_first _ _ r (ExpressionTrees.DeclorTrees.more_declors c u v d ds h0 h1 h2) = first_more is_spec_end (u ++ c ∷ v) r (first_more is_spec_end u (c ∷ v) (declor_first u d h0))

pub declor_behind : (r : List Lexeme) → first_is is_semicolon r ≡ true → first_is is_declor_end r ≡ true
declor_behind = first_implies is_semicolon is_declor_end semicolon_ends_declor

pub no_declor : (r : List Lexeme) → first_is is_semicolon r ≡ true → first_is is_comma r ≡ false
no_declor = first_excludes is_semicolon is_comma semicolon_no_comma

pub open_not : (v r : List Lexeme) → first_is begins_expr v ≡ true → begins_open v ≡ false → first_is is_open (v ++ r) ≡ false
open_not [] r h e = cc
open_not (l ∷ ls) r h e = e
