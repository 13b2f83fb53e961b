-- The statements of a body have one verdict, whatever numbers types have.
use Rattle.std.proofs.Common.{◌≡◌, ℕ, List, []}
use Rattle.clv_place.specs.declared.stop.Offence.{Offence}
use Rattle.cl_types.specs.declared.types.ClType.{ClType}
use Rattle.cl_types.specs.Table.{AreBuilt}
use Rattle.cl_ast.specs.declared.statement.Stmt.{Stmt}
use Rattle.cl_tree.specs.declared.statement.TStmt.{TStmt}
use Rattle.cl_renaming.specs.Renaming.{IsRenaming, AreTypes}
use Rattle.cl_typing.specs.declared.setting.Setting.{Setting}
use Rattle.cl_typing.specs.Settings.{State}
use Rattle.cl_typing.specs.Statements.{ItemsAre, ItemsOffend}
use Rattle.cl_verdicts.proofs.States.{setting_as, state_as}
use Rattle.cl_verdicts.proofs.StatementOutcomes.{gives, stops}
use Rattle.cl_verdicts.proofs.StatementVerdict.{items_one, items_off_one}

module _ (cs ds : List ClType) (r : ℕ → ℕ) (e : IsRenaming cs ds r) (bc : AreBuilt [] cs) (b : AreTypes ds) where
  pub items_same : (p : Setting) (st : State) (ss : List Stmt) (after : State) (ts : List TStmt) → ItemsAre cs p st ss after ts → (p2 : Setting) (st2 after2 : State) (ts2 : List TStmt) → p2 ≡ setting_as r p → st2 ≡ state_as r st → ItemsAre ds p2 st2 ss after2 ts2 → after2 ≡ state_as r after
  items_same p st ss after ts x p2 st2 after2 ts2 f g y = items_one cs ds r e bc b p st ss after ts x p2 st2 f g (gives after2) (ts2, y)

  pub items_no_offence : (p2 : Setting) (st2 : State) (ss : List Stmt) (o : Offence) → ItemsOffend ds p2 st2 ss o → (p : Setting) (st after : State) (ts : List TStmt) → p2 ≡ setting_as r p → st2 ≡ state_as r st → ItemsAre cs p st ss after ts → ⊥
  items_no_offence p2 st2 ss o x p st after ts f g y = items_one cs ds r e bc b p st ss after ts y p2 st2 f g (stops o) x

  pub offence_no_items : (p : Setting) (st : State) (ss : List Stmt) (o : Offence) → ItemsOffend cs p st ss o → (p2 : Setting) (st2 after2 : State) (ts2 : List TStmt) → p2 ≡ setting_as r p → st2 ≡ state_as r st → ItemsAre ds p2 st2 ss after2 ts2 → ⊥
  offence_no_items p st ss o x p2 st2 after2 ts2 f g y = items_off_one cs ds r e bc b p st ss o x p2 st2 f g (gives after2) (ts2, y)

  pub items_offences_one : (p : Setting) (st : State) (ss : List Stmt) (o : Offence) → ItemsOffend cs p st ss o → (p2 : Setting) (st2 : State) (o2 : Offence) → p2 ≡ setting_as r p → st2 ≡ state_as r st → ItemsOffend ds p2 st2 ss o2 → o2 ≡ o
  items_offences_one p st ss o x p2 st2 o2 f g y = items_off_one cs ds r e bc b p st ss o x p2 st2 f g (stops o2) y
