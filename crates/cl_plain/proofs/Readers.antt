-- A reader of expressions and types: it decides by the next token or two.
use Rattle.std.proofs.Common.{ℕ, zero, suc, Bool, true, false, List, [], ◌∷◌, ◌++◌, Option, Some, None}
use Rattle.cl_types.specs.declared.operator.UnOp.TheVariants as un
use Rattle.cl_types.specs.declared.operator.BinOp.{BinOp}
use Rattle.cl_ast.specs.declared.expression.Qual.{Qual}
use Rattle.cl_ast.specs.declared.expression.ExprNode.TheVariants as node
use Rattle.cl_ast.specs.declared.expression.Base.TheVariants as base
use Rattle.cl_grammar.specs.declared.lexeme.Lexeme.{Lexeme}
use Rattle.cl_grammar.specs.declared.operator.Operator.{Operator}
use Rattle.cl_grammar.specs.declared.terminal.Terminal.{Terminal}
use Rattle.cl_grammar.specs.Terminals.{qualifier_of, pointer_qualifier_of, whole_type, width_of, takes_int, binary_of, assignment_of}
use Rattle.cl_grammar.specs.Lexemes.{is_name}
use Rattle.cl_grammar.specs.Expressions.{is_open}
use Rattle.cl_plain.specs.Plain.{Plain, expr, untyped, cast, vector, size_of_type, term, spec, word, tag, struct, field, declor, missing, given, over, leaf}
use Rattle.cl_plain.proofs.Reading.{first_is, begins_type}
use Rattle.cl_plain.proofs.ReadMarks.{is_close_paren, is_open_bracket, is_close_bracket, is_open_brace, is_close_brace, is_comma, is_semicolon, is_colon, is_question, is_star, is_int, BaseStart, whole, sign, width, structs, no_base, base_start, Start, increments, prefixes, sizes, primary, start_of, Primary, name, number, opens, nothing, primary_of, Suffix, index, member, steps, no_suffix, first, first_suffix}
use Rattle.cl_plain.proofs.Comes.{and_then, past}
use Rattle.cl_plain.proofs.ReadGroups.{grouped}

abbrev pub Reader : Type 0 → Type 0
Reader A = List Lexeme → Option (A × List Lexeme)

-- the readers that go a number of steps down
pub record Readers : Type 0 where
  pub spec : Reader Plain
  pub members : Reader (List Plain)
  pub declors : Reader (List Plain)
  pub declor : Reader Plain
  pub lengths : Reader (List Plain)
  pub term : Reader Plain
  pub expr : Reader Plain
  pub args : Reader (List Plain)
  pub assign : Reader Plain
  pub cond : Reader Plain
  pub row : Reader (List (Operator × Plain))
  pub cast : Reader Plain
  pub unary : Reader Plain
  pub primary : Reader Plain
  pub suffixes : Plain → Reader Plain

-- ---- words

unfoldable pub quals_at : Option Qual → List Lexeme → List Qual × List Lexeme → List Qual × List Lexeme
quals_at None ls rest = ([], ls)
quals_at (Some q) ls rest = (q ∷ rest.0, rest.1)

-- the qualifiers before other tokens, and these
unfoldable pub quals : (Terminal → Option Qual) → List Lexeme → List Qual × List Lexeme
quals of [] = ([], [])
quals of (l ∷ ls) = quals_at (of l.terminal) (l ∷ ls) (quals of ls)

abbrev pub star_by : Bool → List Lexeme → Option (Option (List Qual) × List Lexeme)
star_by true [] = None
star_by true (s ∷ ls) = Some (Some (quals pointer_qualifier_of ls).0, (quals pointer_qualifier_of ls).1)
star_by false ls = Some (None, ls)

abbrev pub star_step : List Lexeme → Option (Option (List Qual) × List Lexeme)
star_step ls = star_by (first_is is_star ls) ls

-- ---- types

-- tokens behind an `int` that may stand there
abbrev pub past_int_by : Bool → List Lexeme → List Lexeme
past_int_by true [] = []
past_int_by true (i ∷ ls) = ls
past_int_by false ls = ls

abbrev pub past_int : Bool → List Lexeme → List Lexeme
past_int true ls = past_int_by (first_is is_int ls) ls
past_int false ls = ls

abbrev pub signed_by : Bool → Option ℕ → List Lexeme → Option (Plain × List Lexeme)
signed_by signed None ls = Some (leaf (word (base.Int 32 signed)), ls)
signed_by signed (Some bits) [] = None
signed_by signed (Some bits) (w ∷ ls) = Some (leaf (word (base.Int bits signed)), past_int (takes_int w.terminal) ls)

abbrev pub named_by : Readers → Bool → Lexeme → List Lexeme → Option (Plain × List Lexeme)
named_by R true n [] = None
named_by R true n (o ∷ ls) = and_then (R.members ls) (λ fs r. past is_close_brace r (λ c rest. Some (over (struct (Some n.text) n.place) fs, rest)))
named_by R false n ls = Some (leaf (tag (Some n.text) n.place), ls)

abbrev pub struct_by : Readers → Bool → Lexeme → List Lexeme → Option (Plain × List Lexeme)
struct_by R true s [] = None
struct_by R true s (n ∷ ls) = named_by R (first_is is_open_brace ls) n ls
struct_by R false s ls = past is_open_brace ls (λ o r. and_then (R.members r) (λ fs q. past is_close_brace q (λ c rest. Some (over (struct None s.place) fs, rest))))

abbrev pub base_by : Readers → BaseStart → Lexeme → List Lexeme → Option (Plain × List Lexeme)
base_by R (whole b) l ls = Some (leaf (word b), ls)
base_by R (sign signed) l ls = signed_by signed (first width_of ls) ls
base_by R (width bits takes) l ls = Some (leaf (word (base.Int bits true)), past_int takes ls)
base_by R structs l ls = struct_by R (first_is is_name ls) l ls
base_by R no_base l ls = None

abbrev pub base_step : Readers → List Lexeme → Option (Plain × List Lexeme)
base_step R [] = None
base_step R (l ∷ ls) = base_by R (base_start l l.terminal) l ls

abbrev pub spec_of : List Qual → List Qual × List Lexeme → Plain → Option (Plain × List Lexeme)
spec_of before behind b = Some (over (spec (before ++ behind.0)) (b ∷ []), behind.1)

abbrev pub spec_by : Readers → List Qual × List Lexeme → Option (Plain × List Lexeme)
spec_by R before = and_then (base_step R before.1) (λ b r. spec_of before.0 (quals qualifier_of r) b)

abbrev pub spec_step : Readers → List Lexeme → Option (Plain × List Lexeme)
spec_step R ls = spec_by R (quals qualifier_of ls)

abbrev pub members_by : Readers → Bool → Plain → List Lexeme → Option (List Plain × List Lexeme)
members_by R true f ls = Some (f ∷ [], ls)
members_by R false f ls = and_then (R.members ls) (λ fs r. Some (f ∷ fs, r))

abbrev pub members_step : Readers → List Lexeme → Option (List Plain × List Lexeme)
members_step R ls = and_then (R.spec ls) (λ s r. and_then (R.declors r) (λ ds q. past is_semicolon q (λ c rest. members_by R (first_is is_close_brace rest) (over field (s ∷ ds)) rest)))

abbrev pub declors_by : Readers → Bool → Plain → List Lexeme → Option (List Plain × List Lexeme)
declors_by R true d [] = None
declors_by R true d (c ∷ ls) = and_then (R.declors ls) (λ ds r. Some (d ∷ ds, r))
declors_by R false d ls = Some (d ∷ [], ls)

abbrev pub declors_step : Readers → List Lexeme → Option (List Plain × List Lexeme)
declors_step R ls = and_then (R.declor ls) (λ d r. declors_by R (first_is is_comma r) d r)

abbrev pub declor_step : Readers → List Lexeme → Option (Plain × List Lexeme)
declor_step R ls = and_then (star_step ls) (λ s r. past is_name r (λ n q. and_then (R.lengths q) (λ es rest. Some (over (declor s n.text n.place) es, rest))))

abbrev pub length_by : Readers → Bool → List Lexeme → Option (List Plain × List Lexeme)
length_by R true [] = None
length_by R true (c ∷ ls) = and_then (R.lengths ls) (λ es r. Some (leaf missing ∷ es, r))
length_by R false ls = and_then (R.cond ls) (λ e r. past is_close_bracket r (λ c q. and_then (R.lengths q) (λ es rest. Some (over given (e ∷ []) ∷ es, rest))))

abbrev pub lengths_by : Readers → Bool → List Lexeme → Option (List Plain × List Lexeme)
lengths_by R true [] = None
lengths_by R true (o ∷ ls) = length_by R (first_is is_close_bracket ls) ls
lengths_by R false ls = Some ([], ls)

abbrev pub lengths_step : Readers → List Lexeme → Option (List Plain × List Lexeme)
lengths_step R ls = lengths_by R (first_is is_open_bracket ls) ls

abbrev pub term_step : Readers → List Lexeme → Option (Plain × List Lexeme)
term_step R ls = and_then (R.spec ls) (λ s r. and_then (star_step r) (λ q rest. Some (over (term q) (s ∷ []), rest)))

-- ---- expressions

abbrev pub expr_by : Readers → Bool → Plain → List Lexeme → Option (Plain × List Lexeme)
expr_by R true a [] = None
expr_by R true a (c ∷ ls) = and_then (R.args ls) (λ xs r. Some (over (expr c.place) (leaf (untyped node.Comma) ∷ a ∷ xs), r))
expr_by R false a ls = Some (a, ls)

abbrev pub expr_step : Readers → List Lexeme → Option (Plain × List Lexeme)
expr_step R ls = and_then (R.assign ls) (λ a r. expr_by R (first_is is_comma r) a r)

abbrev pub args_by : Readers → Bool → Plain → List Lexeme → Option (List Plain × List Lexeme)
args_by R true a [] = None
args_by R true a (c ∷ ls) = and_then (R.args ls) (λ xs r. Some (a ∷ xs, r))
args_by R false a ls = Some (a ∷ [], ls)

abbrev pub args_step : Readers → List Lexeme → Option (List Plain × List Lexeme)
args_step R ls = and_then (R.assign ls) (λ a r. args_by R (first_is is_comma r) a r)

abbrev pub choice_by : Readers → Bool → Plain → List Lexeme → Option (Plain × List Lexeme)
choice_by R true a [] = None
choice_by R true a (q ∷ ls) = and_then (R.assign ls) (λ b r. past is_colon r (λ c s. and_then (R.cond s) (λ d rest. Some (over (expr q.place) (leaf (untyped node.Cond) ∷ a ∷ b ∷ d ∷ []), rest))))
choice_by R false a ls = Some (a, ls)

-- what stands behind the first operand of a row
abbrev pub row_behind : Readers → Plain → List Lexeme → Option (Plain × List Lexeme)
row_behind R a ls = and_then (R.row ls) (λ row r. choice_by R (first_is is_question r) (grouped a row) r)

abbrev pub cond_step : Readers → List Lexeme → Option (Plain × List Lexeme)
cond_step R ls = and_then (R.cast ls) (λ a r. row_behind R a r)

abbrev pub assign_by : Readers → Option (Option BinOp) → Plain → List Lexeme → Option (Plain × List Lexeme)
assign_by R None a ls = row_behind R a ls
assign_by R (Some op) a [] = None
assign_by R (Some op) a (o ∷ ls) = and_then (R.assign ls) (λ b r. Some (over (expr o.place) (leaf (untyped (node.Assign op)) ∷ a ∷ b ∷ []), r))

abbrev pub assign_step : Readers → List Lexeme → Option (Plain × List Lexeme)
assign_step R ls = and_then (R.cast ls) (λ a r. assign_by R (first assignment_of r) a r)

abbrev pub row_by : Readers → Option BinOp → List Lexeme → Option (List (Operator × Plain) × List Lexeme)
row_by R None ls = Some ([], ls)
row_by R (Some op) [] = None
row_by R (Some op) (o ∷ ls) = and_then (R.cast ls) (λ a r. and_then (R.row r) (λ row rest. Some ((record { op = op; place = o.place }, a) ∷ row, rest)))

abbrev pub row_step : Readers → List Lexeme → Option (List (Operator × Plain) × List Lexeme)
row_step R ls = row_by R (first binary_of ls) ls

abbrev pub opens_by : Bool → List Lexeme → Bool
opens_by true ls = first_is begins_type ls
opens_by false ls = false

-- whether tokens begin with a `(` and a type
unfoldable pub opens_type : List Lexeme → Bool
opens_type [] = false
opens_type (l ∷ ls) = opens_by (is_open l.terminal) ls

abbrev pub is_false : Bool → Bool
is_false true = false
is_false false = true

abbrev pub vector_by : Option Bool → List Lexeme → Bool
vector_by None ls = false
vector_by (Some false) ls = false
vector_by (Some true) ls = is_false (first_is is_star ls)

abbrev pub vector_at : List Lexeme → Bool
vector_at [] = false
vector_at (w ∷ ls) = vector_by (whole_type w.terminal) (quals qualifier_of ls).1

-- whether tokens begin with a type that names a vector and is no pointer
unfoldable pub names_vector : List Lexeme → Bool
names_vector ls = vector_at (quals qualifier_of ls).1

abbrev pub cast_of : Readers → Lexeme → Plain → List Lexeme → Option (Plain × List Lexeme)
cast_of R o ty ls = and_then (R.cast ls) (λ a r. Some (over (expr o.place) (over cast (ty ∷ []) ∷ a ∷ []), r))

abbrev pub literal_by : Readers → Bool → Lexeme → Plain → List Lexeme → Option (Plain × List Lexeme)
literal_by R true o ty [] = None
literal_by R true o ty (p ∷ ls) = and_then (R.args ls) (λ xs r. past is_close_paren r (λ d rest. Some (over (expr o.place) (over vector (ty ∷ []) ∷ xs), rest)))
literal_by R false o ty ls = cast_of R o ty ls

abbrev pub typed_by : Readers → Bool → Lexeme → Plain → List Lexeme → Option (Plain × List Lexeme)
typed_by R true o ty ls = literal_by R (first_is is_open ls) o ty ls
typed_by R false o ty ls = cast_of R o ty ls

abbrev pub cast_by : Readers → Bool → List Lexeme → Option (Plain × List Lexeme)
cast_by R true [] = None
cast_by R true (o ∷ ls) = and_then (R.term ls) (λ ty r. past is_close_paren r (λ c rest. typed_by R (names_vector ls) o ty rest))
cast_by R false ls = R.unary ls

abbrev pub cast_step : Readers → List Lexeme → Option (Plain × List Lexeme)
cast_step R ls = cast_by R (opens_type ls) ls

abbrev pub size_by : Readers → Bool → Lexeme → List Lexeme → Option (Plain × List Lexeme)
size_by R true s [] = None
size_by R true s (o ∷ ls) = and_then (R.term ls) (λ ty r. past is_close_paren r (λ c rest. Some (over (expr s.place) (over size_of_type (ty ∷ []) ∷ []), rest)))
size_by R false s ls = and_then (R.unary ls) (λ a r. Some (over (expr s.place) (leaf (untyped (node.Unary un.Sizeof)) ∷ a ∷ []), r))

abbrev pub unary_by : Readers → Start → Lexeme → List Lexeme → Option (Plain × List Lexeme)
unary_by R (increments op) l ls = and_then (R.unary ls) (λ a r. Some (over (expr l.place) (leaf (untyped (node.Unary op)) ∷ a ∷ []), r))
unary_by R (prefixes op) l ls = and_then (R.cast ls) (λ a r. Some (over (expr l.place) (leaf (untyped (node.Unary op)) ∷ a ∷ []), r))
unary_by R sizes l ls = size_by R (opens_type ls) l ls
unary_by R primary l ls = and_then (R.primary (l ∷ ls)) (λ a r. R.suffixes a r)

abbrev pub unary_step : Readers → List Lexeme → Option (Plain × List Lexeme)
unary_step R [] = None
unary_step R (l ∷ ls) = unary_by R (start_of l.terminal) l ls

abbrev pub call_by : Readers → Bool → Lexeme → List Lexeme → Option (Plain × List Lexeme)
call_by R true n [] = None
call_by R true n (c ∷ ls) = Some (over (expr n.place) (leaf (untyped (node.Call n.text)) ∷ []), ls)
call_by R false n ls = and_then (R.args ls) (λ xs r. past is_close_paren r (λ c rest. Some (over (expr n.place) (leaf (untyped (node.Call n.text)) ∷ xs), rest)))

abbrev pub name_by : Readers → Bool → Lexeme → List Lexeme → Option (Plain × List Lexeme)
name_by R true n [] = None
name_by R true n (o ∷ ls) = call_by R (first_is is_close_paren ls) n ls
name_by R false n ls = Some (over (expr n.place) (leaf (untyped (node.Name n.text)) ∷ []), ls)

abbrev pub primary_by : Readers → Primary → Lexeme → List Lexeme → Option (Plain × List Lexeme)
primary_by R name l ls = name_by R (first_is is_open ls) l ls
primary_by R (number value ty) l ls = Some (over (expr l.place) (leaf (untyped (node.Number value ty)) ∷ []), ls)
primary_by R opens l ls = and_then (R.expr ls) (λ e r. past is_close_paren r (λ c rest. Some (e, rest)))
primary_by R nothing l ls = None

abbrev pub primary_step : Readers → List Lexeme → Option (Plain × List Lexeme)
primary_step R [] = None
primary_step R (l ∷ ls) = primary_by R (primary_of l.terminal) l ls

abbrev pub suffix_by : Readers → Suffix → Plain → List Lexeme → Option (Plain × List Lexeme)
suffix_by R no_suffix a ls = Some (a, ls)
suffix_by R index a [] = None
suffix_by R index a (o ∷ ls) = and_then (R.expr ls) (λ i r. past is_close_bracket r (λ c rest. R.suffixes (over (expr o.place) (leaf (untyped node.Index) ∷ a ∷ i ∷ [])) rest))
suffix_by R (member arrow) a [] = None
suffix_by R (member arrow) a (d ∷ ls) = past is_name ls (λ n r. R.suffixes (over (expr d.place) (leaf (untyped (node.Member n.text arrow)) ∷ a ∷ [])) r)
suffix_by R (steps op) a [] = None
suffix_by R (steps op) a (o ∷ ls) = R.suffixes (over (expr o.place) (leaf (untyped (node.Unary op)) ∷ a ∷ [])) ls

abbrev pub suffixes_step : Readers → Plain → List Lexeme → Option (Plain × List Lexeme)
suffixes_step R a ls = suffix_by R (first_suffix ls) a ls

-- ---- all of them

unfoldable pub readers : ℕ → Readers
readers zero = record {
  spec = λ ls. None;
  members = λ ls. None;
  declors = λ ls. None;
  declor = λ ls. None;
  lengths = λ ls. None;
  term = λ ls. None;
  expr = λ ls. None;
  args = λ ls. None;
  assign = λ ls. None;
  cond = λ ls. None;
  row = λ ls. None;
  cast = λ ls. None;
  unary = λ ls. None;
  primary = λ ls. None;
  suffixes = λ a ls. None;
}
readers (suc n) = record {
  spec = spec_step (readers n);
  members = members_step (readers n);
  declors = declors_step (readers n);
  declor = declor_step (readers n);
  lengths = lengths_step (readers n);
  term = term_step (readers n);
  expr = expr_step (readers n);
  args = args_step (readers n);
  assign = assign_step (readers n);
  cond = cond_step (readers n);
  row = row_step (readers n);
  cast = cast_step (readers n);
  unary = unary_step (readers n);
  primary = primary_step (readers n);
  suffixes = suffixes_step (readers n);
}
