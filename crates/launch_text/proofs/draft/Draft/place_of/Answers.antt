use Rattle.std.proofs.Common.{List, ℕ, refl, ap, ◌∙◌, rules, tests}
use Rattle.std.specs.List.{position_or_len}
use Rattle.std.specs.Str.{bytes_eq}
use Rattle.std.proofs.lemmas.Iterator.{YieldsList-from_slice}
use Rattle.std.proofs.lemmas.Iterator.Search.{position_from_yields_List}
use Rattle.launch_text.proofs.Places.{place_found}
use Rattle.launch_text.proofs.draft.Draft.place_of.Goals as goal

pub returns-clause-place : goal.returns-clause-place
returns-clause-place c =
    let files = c.as_slice-files.result.now in
    let name = c.as_slice-name.result.now in
    c.unwrap_or.ensures ∙ place_found (bytes_eq name) files c.position.result _ refl (position_from_yields_List (bytes_eq name) _ _ c.position.result c.position.ensures.ran (YieldsList-from_slice files cc) (λ x b q k. search (rules, tests))) ∙ ap (position_or_len (bytes_eq name)) c.as_slice-files.ensures ∙ ap (λ (n : List ℕ). position_or_len (bytes_eq n) c.args.self.now.files) c.as_slice-name.ensures
