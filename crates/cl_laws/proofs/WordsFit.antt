-- The type that words name is in the table, with its shape.
use Rattle.std.proofs.Common.{List, [], ◌∷◌, refl, Bool, Option, Some, None}
use Rattle.cl_types.specs.declared.space.Space.{Space}
use Rattle.cl_types.specs.declared.types.ClType.{ClType}
use Rattle.cl_ast.specs.declared.expression.Base.{Base}
use Rattle.cl_ast.specs.declared.expression.Qual.{Qual}
use Rattle.cl_ast.specs.declared.expression.Qual.TheVariants as qual
use Rattle.cl_ast.specs.declared.expression.Spec.{Spec}
use Rattle.cl_ast.specs.declared.expression.TypeTerm.{TypeTerm}
use Rattle.cl_builtins.proofs.Growth.{at_known}
use Rattle.cl_rules.specs.declared.rule.Qualified.{Qualified}
use Rattle.cl_scope.specs.Names.{Env}
use Rattle.cl_words.specs.Words.{with_space_at, with_qual, qualify}
use Rattle.cl_make.specs.Ready.{IsReadyType}
use Rattle.cl_type_expr.specs.Expressions.{IsTermOf, IsSpecified, IsBase, in_brackets, named, struct_members, struct_tag, word, words}
use Rattle.cl_laws.proofs.SameTypes.{known_wanted}

ready_spaced : (cs : List ClType) (s : Space) (q : Qualified) (o : Option Space) → IsReadyType cs q → IsReadyType cs (with_space_at s q o)
ready_spaced cs s q None h = record { known = h.known; shape = h.shape }
ready_spaced cs s q (Some own) h = record { known = h.known; shape = h.shape }

pub qualified_ready : (cs : List ClType) (qs : List Qual) (q : Qualified) → IsReadyType cs q → IsReadyType cs (qualify qs q)
qualified_ready cs [] q h = h
qualified_ready cs (qual.Const ∷ qs) q h = qualified_ready cs qs (with_qual qual.Const q) (record { known = h.known; shape = h.shape })
qualified_ready cs (qual.Volatile ∷ qs) q h = qualified_ready cs qs q h
qualified_ready cs (qual.Restrict ∷ qs) q h = qualified_ready cs qs q h
qualified_ready cs (qual.Space s ∷ qs) q h = qualified_ready cs qs (with_qual (qual.Space s) q) (ready_spaced cs s q q.space h)

pub base_ready : (cs : List ClType) (env : Env) (b : Base) (after : Env) (q : Qualified) → IsBase cs env b after q → IsReadyType cs q
base_ready cs _ _ _ _ (word env b s t h0 h1) = record { known = known_wanted cs _ t h1; shape = refl }
base_ready cs _ _ _ _ (named env text place d h0 h1 h2) = record { known = h2; shape = refl }
base_ready cs _ _ _ _ (struct_tag env b text place d h0 h1 h2 h3) = record { known = h3; shape = refl }
base_ready cs _ _ _ _ (struct_members env after b text place fields members void t h0 h1 h2 h3 h4) = record { known = at_known cs _ t h4; shape = refl }

pub specified_ready : (cs : List ClType) (env : Env) (s : Spec) (after : Env) (q : Qualified) → IsSpecified cs env s after q → IsReadyType cs q
specified_ready cs _ _ _ _ (words env after s quals b q h0 h1) = qualified_ready cs quals q (base_ready cs env b after q h1)

pub term_ready : (cs : List ClType) (env : Env) (term : TypeTerm) (after : Env) (q : Qualified) (star : Option Bool) → IsTermOf cs env term after q star → IsReadyType cs q
term_ready cs _ _ _ _ _ (in_brackets env after term s star q h0 h1) = specified_ready cs env s after q h1
