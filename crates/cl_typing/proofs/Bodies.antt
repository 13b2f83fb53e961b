-- The statements of a function's body.
use Rattle.std.proofs.Common.{◌≡◌, List, [], ◌∷◌, ◌++◌, Result, Ok, Err, sym, ap, ◌∙◌, subst}
use Rattle.std.specs.Prelude.{IfOk, IfErr}
use Rattle.std.proofs.lemmas.List.{append-nil}
use Rattle.std.specs.Global.{Vec}
use Rattle.clv_place.specs.declared.stop.Stop.{Stop}
use Rattle.clv_place.specs.declared.stop.Stop.TheVariants.{Out, NoMemory}
use Rattle.cl_types.specs.declared.types.ClType.{ClType}
use Rattle.cl_ast.specs.declared.statement.Stmt.{Stmt}
use Rattle.cl_ast.specs.declared.statement.StmtNode.TheVariants as node
use Rattle.cl_ast.specs.declared.statement.StmtNode.TheViews.{out-Stmt}
use Rattle.cl_tree.specs.declared.statement.TStmt.{TStmt}
use Rattle.cl_typing.specs.declared.setting.Setting.{Setting}
use Rattle.cl_typing.specs.Answers.{ItemsAreTyped, ItemsStop, ItemIs, ItemStops}
use Rattle.cl_typing.specs.Settings.{State}
use Rattle.cl_typing.specs.Statements.{ItemsAre, no_item}
use Rattle.cl_typing.specs.UnitAnswers.{BodyIs, BodyStops}
use Rattle.cl_typing.specs.Units.{IsBody, block, other}
use Rattle.cl_typing.proofs.Blocks.{is_stmt}

module _ (cs : List ClType) (p : Setting) (st : State) (s : Stmt) where
  module _ (items : Vec Stmt) (is : (out-Stmt s).node ≡ node.Block items) where
    block_body : IsBody s items.items
    block_body = block s (out-Stmt s).place items (is_stmt s (node.Block items) is)

    pub body_block : (after : State) (r : Result (Vec TStmt) Stop) → IfOk r (λ ts. ItemsAreTyped cs p st items.items after ts.items) → IfOk r (λ ts. BodyIs cs p st s after ts.items)
    body_block after (Ok ts) h = record { inside = items.items; body = block_body; items = h }
    body_block after (Err x) h = tt

    pub body_block_out : (r : Result (Vec TStmt) Stop) → IfErr r (ItemsStop cs p st items.items) → IfErr r (BodyStops cs p st s)
    body_block_out (Ok ts) h = tt
    body_block_out (Err NoMemory) h = tt
    body_block_out (Err (Out o)) h = record { inside = items.items; body = block_body; offends = h }

  module _ (plain : (items : Vec Stmt) → (out-Stmt s).node ≡ node.Block items → ⊥) where
    other_body : IsBody s (s ∷ [])
    other_body = other s (λ place items h. plain items h.is)

    pub body_other : (after : State) (old new : List TStmt) → old ≡ [] → ItemIs cs p st s after old new → BodyIs cs p st s after new
    body_other after old new none h = record {
      inside = s ∷ [];
      body = other_body;
      items = record {
        items = λ more m. subst (ItemsAre more p st (s ∷ []) after) (append-nil h.trees ∙ sym (h.added ∙ ap (λ z. z ++ h.trees) none)) (h.items more m [] after [] (no_item p after));
        known = h.known;
      };
    }

    pub body_other_out : (x : Stop) → ItemStops cs p st s x → BodyStops cs p st s x
    body_other_out NoMemory h = tt
    body_other_out (Out o) h = record { inside = s ∷ []; body = other_body; offends = λ more m. h more m [] }
