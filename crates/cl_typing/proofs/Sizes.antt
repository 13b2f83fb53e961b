-- Required sizes, word by word.
use Rattle.std.proofs.Common.{◌≡◌, ℕ, ◌+◌, ◌<◌, ◌≤◌, Bool, true, false, true≢false, not, ◌||◌, List, [], ◌∷◌, length, drop, get_or, Option, Some, None, is_some, refl, sym, ap, ◌∙◌, subst}
use Rattle.std.specs.Prelude.{if◌then◌else◌}
use Rattle.std.specs.Global.{Vec}
use Rattle.clv_place.specs.declared.place.Place.{Place}
use Rattle.clv_place.specs.declared.stop.Offence.{Offence}
use Rattle.clv_place.specs.declared.stop.Stop.{Stop}
use Rattle.clv_place.specs.declared.stop.Stop.TheVariants.{Out, NoMemory}
use Rattle.cl_types.specs.declared.types.ClType.{ClType}
use Rattle.cl_types.specs.Table.{IsTable}
use Rattle.cl_builtins.proofs.Growth.{grown_twice}
use Rattle.cl_ast.specs.declared.declaration.FWord.{FWord}
use Rattle.cl_ast.specs.declared.declaration.FWord.TheVariants as fword
use Rattle.cl_ast.specs.declared.expression.Expr.{Expr}
use Rattle.cl_rules.specs.Operands.{first_broken}
use Rattle.cl_scope.specs.Names.{Env}
use Rattle.cl_scope.specs.Scopes.{IsKnownEnv}
use Rattle.cl_make.specs.Ready.{From, Grows}
use Rattle.cl_make.proofs.Growing.{grows_twice, grows_itself}
use Rattle.cl_type_expr.specs.Offences.{at}
use Rattle.cl_typing.specs.UnitAnswers.{ConstantsAreTyped, ConstantsStop, SizesAreTyped, SizesStop}
use Rattle.cl_typing.specs.Units.{is_size, size_of, size_in, size_tests, requires, SizesAre, SizesOffend, no_word, other_word, required, in_arguments, no_size, behind_other, behind_required}
use Rattle.cl_typing.proofs.SoFar.{dropped, dropped_all}

-- behind a size no other one stands
none_behind : (cs : List ClType) (env after : Env) (given : Bool) (ws : List FWord) (size : Option (List ℕ)) → given ≡ true → SizesAre cs env given ws after size → size ≡ None
none_behind cs _ _ _ _ _ g (no_word env given) = refl
none_behind cs _ _ _ _ _ g (other_word env after given w ws size plain rest) = none_behind cs env after given ws size g rest
none_behind cs _ _ _ _ _ g (required env middle after given place args ws ns has fits rest) = absurd (broken given (not (is_size ns)) g fits)
  where
    some_none : first_broken ((328, true) ∷ []) ≡ None → ⊥
    some_none e = true≢false (ap is_some e)

    broken : (a b : Bool) → a ≡ true → first_broken ((328, a || b) ∷ []) ≡ None → ⊥
    broken true b e h = some_none h
    broken false b e h = true≢false (sym e)

abbrev pub or_found : Option (List ℕ) → Option (List ℕ) → Option (List ℕ)
or_found None rest = rest
or_found (Some s) rest = Some s

-- the words up to an index: whether a size is given, and the one that was found
pub record SizesSoFar (first now : List ClType) (env : Env) (given : Bool) (ws : List FWord) (i : ℕ) (here : Env) (known : Bool) (found : Option (List ℕ)) : Type 0 where
  pub goes : From now (λ more. (after : Env) (rest : Option (List ℕ)) → SizesAre more here known (drop i ws) after rest → SizesAre more env given ws after (or_found found rest))
  pub stops : From now (λ more. (o : Offence) → SizesOffend more here known (drop i ws) o → SizesOffend more env given ws o)
  pub nothing : known ≡ false → found ≡ None
  pub declared : IsKnownEnv now here
  pub grown : Grows first now

pub sizes_start : (cs : List ClType) (env : Env) (given : Bool) (ws : List FWord) → IsTable cs → IsKnownEnv cs env → SizesSoFar cs cs env given ws 0 env given None
sizes_start cs env given ws b k = record {
  goes = λ more m after rest h. h;
  stops = λ more m o h. h;
  nothing = λ e. refl;
  declared = k;
  grown = grows_itself cs b;
}

module _ (first now : List ClType) (env : Env) (given : Bool) (ws : List FWord) (i : ℕ) (here : Env) (known : Bool) (found : Option (List ℕ)) (w : FWord) (h : SizesSoFar first now env given ws i here known found) (low : i < length ws) (is : w ≡ get_or ws i w) where
  sizes_rest : drop i ws ≡ w ∷ drop (i + 1) ws
  sizes_rest = dropped ws i w low is

  pub sizes_other : requires w ≡ false → SizesSoFar first now env given ws (i + 1) here known found
  sizes_other plain = record {
    goes = λ more m after rest t. h.goes more m after rest (subst (λ z. SizesAre more here known z after rest) (sym sizes_rest) (other_word here after known w (drop (i + 1) ws) rest plain t));
    stops = λ more m o t. h.stops more m o (subst (λ z. SizesOffend more here known z o) (sym sizes_rest) (behind_other here known w (drop (i + 1) ws) o plain t));
    nothing = h.nothing;
    declared = h.declared;
    grown = h.grown;
  }

  module _ (place : Place) (args : Vec Expr) (req : w ≡ fword.Required place args) (new : List ClType) (g : Grows now new) where
    sizes_split : drop i ws ≡ fword.Required place args ∷ drop (i + 1) ws
    sizes_split = sizes_rest ∙ ap (λ z. z ∷ drop (i + 1) ws) req

    pub sizes_arguments_out : (x : Stop) → ConstantsStop new here args.items x → SizesStop new env given ws x
    sizes_arguments_out NoMemory t = tt
    sizes_arguments_out (Out o) t = λ more m. h.stops more (grown_twice now new more g.grown m) o (subst (λ z. SizesOffend more here known z o) (sym sizes_split) (in_arguments here known place args (drop (i + 1) ws) o (t more m)))

    module _ (middle : Env) (ns : List (Option ℕ)) (c : ConstantsAreTyped new here args.items middle ns) where
      pub sizes_broken : first_broken (size_tests known ns) ≡ Some 328 → SizesStop new env given ws (Out (at 328 place))
      sizes_broken t = λ more m. h.stops more (grown_twice now new more g.grown m) (at 328 place)
          (subst (λ z. SizesOffend more here known z (at 328 place)) (sym sizes_split) (no_size here middle known place args (drop (i + 1) ws) ns 328 (c.constants more m) t))

      pub sizes_found : known ≡ false → first_broken (size_tests known ns) ≡ None → SizesSoFar first new env given ws (i + 1) middle true (Some (size_of ns))
      sizes_found new_one t = record {
        goes = λ more m after rest u. subst (λ z. SizesAre more env given ws after (or_found z (Some (size_of ns)))) (h.nothing new_one)
            (h.goes more (grown_twice now new more g.grown m) after (Some (size_of ns))
            (subst (λ z. SizesAre more here known z after (Some (size_of ns))) (sym sizes_split)
            (required here middle after known place args (drop (i + 1) ws) ns (c.constants more m) t
            (subst (λ z. SizesAre more middle true (drop (i + 1) ws) after z) (none_behind more middle after true (drop (i + 1) ws) rest refl u) u))));
        stops = λ more m o u. h.stops more (grown_twice now new more g.grown m) o
            (subst (λ z. SizesOffend more here known z o) (sym sizes_split) (behind_required here middle known place args (drop (i + 1) ws) ns o (c.constants more m) t u));
        nothing = λ e. absurd (true≢false e);
        declared = c.known;
        grown = grows_twice first now new h.grown g;
      }

-- ---- the size in the brackets

some_if : (b : Bool) (ns : List ℕ) → is_some (if b then Some ns else None) ≡ b
some_if true ns = refl
some_if false ns = refl

or_first : (a b : Bool) → (a || b) ≡ false → a ≡ false
or_first true b h = absurd (true≢false h)
or_first false b h = refl

or_second : (a b : Bool) → (a || b) ≡ false → b ≡ false
or_second true b h = absurd (true≢false h)
or_second false b h = h

not_false : (b : Bool) → not b ≡ false → b ≡ true
not_false true h = refl
not_false false h = absurd (true≢false h)

module _ (known told : Bool) (size : Option (List ℕ)) (ns : List (Option ℕ)) (is : size ≡ size_in ns) (e : told ≡ (known || not (is_some size))) where
  told_is : told ≡ (known || not (is_size ns))
  told_is = e ∙ ap (λ z. known || not (is_some z)) is ∙ ap (λ z. known || not z) (some_if (is_size ns) (size_of ns))

  pub size_broken : told ≡ true → first_broken (size_tests known ns) ≡ Some 328
  size_broken h = ap (λ z. first_broken ((328, z) ∷ [])) (sym told_is ∙ h)

  pub size_kept : told ≡ false → first_broken (size_tests known ns) ≡ None
  size_kept h = ap (λ z. first_broken ((328, z) ∷ [])) (sym told_is ∙ h)

  pub size_first : told ≡ false → known ≡ false
  size_first h = or_first known (not (is_size ns)) (sym told_is ∙ h)

  pub size_found : told ≡ false → size ≡ Some (size_of ns)
  size_found h = is ∙ ap (λ z. if z then Some (size_of ns) else None) (not_false (is_size ns) (or_second known (not (is_size ns)) (sym told_is ∙ h)))

pub sizes_end : (first now : List ClType) (env : Env) (given : Bool) (ws : List FWord) (i : ℕ) (here : Env) (known : Bool) (found : Option (List ℕ)) → SizesSoFar first now env given ws i here known found → length ws ≤ i → SizesAreTyped now env given ws here found
sizes_end first now env given ws i here known found h done = record {
  sizes = λ more m. subst (SizesAre more env given ws here) (or_none found) (h.goes more m here None (subst (λ z. SizesAre more here known z here None) (sym (dropped_all ws i done)) (no_word here known)));
  known = h.declared;
}
  where
    or_none : (o : Option (List ℕ)) → or_found o None ≡ o
    or_none None = refl
    or_none (Some s) = refl

pub not_required : (w : FWord) → ((place : Place) (args : Vec Expr) → w ≡ fword.Required place args → ⊥) → requires w ≡ false
not_required fword.Kernel h = refl
not_required fword.Inline h = refl
not_required fword.Static h = refl
not_required (fword.Required place args) h = absurd (h place args refl)
not_required fword.Hint h = refl
