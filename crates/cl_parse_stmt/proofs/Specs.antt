-- The words of a type, of which some name a vector and some don't.
use Rattle.std.proofs.Common.{ℕ, List, [], ◌∷◌, ◌++◌, drop, Bool, true, false, ◌⊎◌, inl, inr}
use Rattle.std.specs.Prelude.{not}
use Rattle.cl_grammar.specs.declared.lexeme.Lexeme.{Lexeme}
use Rattle.cl_grammar.specs.declared.stop.ExprStop.{ExprStop}
use Rattle.cl_grammar.specs.declared.stop.ExprStop.TheVariants.{Out, NoMemory}
use Rattle.cl_grammar.specs.Parts.{IsAnySpec, any_spec}
use Rattle.cl_grammar.specs.Expressions.{IsSpec}
use Rattle.cl_grammar.specs.Symbols as s
use Rattle.cl_grammar.specs.Symbols.{E}
use Rattle.cl_grammar.specs.Items.{Item, Excluded, between, ReadAt, NoneAt, OutAt, IsRefused, RefusedAt, IsBarred, BarredAt}

either : (vector : Bool) (u : List Lexeme) → IsAnySpec u → IsSpec vector u ⊎ IsSpec (not vector) u
either true _ (any_spec true u a) = inl a
either true _ (any_spec false u a) = inr a
either false _ (any_spec true u a) = inr a
either false _ (any_spec false u a) = inl a

item_of : (vector : Bool) (read ts ts' : List Lexeme) → Item (E (s.Spec vector)) [] read ts ts' → Excluded (E (s.Spec (not vector))) read ts ts' → Item (E s.AnySpec) [] read ts ts'
item_of vector read ts ts' i n = record {
  split = i.split;
  builds = λ u are. any_spec vector (read ++ u) (i.builds u are);
  only = λ others fits l v w first are. elim (either vector are.0 are.2) as (λ _. s.Are others (l ∷ w)) [
    | inl h ↦ i.only others (record { stops = fits.stops }) l v w first (are.0, are.1, h, are.3, are.4)
    | inr h ↦ absurd (n.no_more others (record { stops = fits.stops }) l v w first (are.0, are.1, h, are.3, are.4))
  ];
}

-- One of the two was read.
pub any_spec_read : (vector : Bool) (ts : List Lexeme) (a b : ℕ) → ReadAt (E (s.Spec vector)) ts a b → NoneAt (E (s.Spec (not vector))) ts a b → ReadAt (E s.AnySpec) ts a b
any_spec_read vector ts a b r n = record { read = record { forth = r.read.forth; within = r.read.within; item = item_of vector (between ts a b) (drop a ts) (drop b ts) r.read.item n.excluded } }

none_of : (read ts ts' : List Lexeme) → Excluded (E (s.Spec false)) read ts ts' → Excluded (E (s.Spec true)) read ts ts' → Excluded (E s.AnySpec) read ts ts'
none_of read ts ts' m n = record {
  split = m.split;
  no_more = λ others fits l v w first are. elim (either false are.0 are.2) as (λ _. ⊥) [
    | inl h ↦ m.no_more others (record { stops = fits.stops }) l v w first (are.0, are.1, h, are.3, are.4)
    | inr h ↦ n.no_more others (record { stops = fits.stops }) l v w first (are.0, are.1, h, are.3, are.4)
  ];
}

out_of : (ts : List Lexeme) (a b : ℕ) → OutAt (E (s.Spec false)) ts a b → NoneAt (E (s.Spec true)) ts a b → OutAt (E s.AnySpec) ts a b
out_of ts a b o n = record {
  none = record { forth = n.forth; within = n.within; excluded = none_of (between ts a b) (drop a ts) (drop b ts) o.none.excluded n.excluded };
  begun = record { todo = o.begun.todo; there = o.begun.there; builds = λ u are. any_spec false (between ts a b ++ u) (o.begun.builds u are) };
}

stops : (ts : List Lexeme) (a : ℕ) (stop : ExprStop) → IsRefused (E (s.Spec false)) ts a stop → IsBarred (E (s.Spec true)) ts a stop → IsRefused (E s.AnySpec) ts a stop
stops ts a (Out k) h n = out_of ts a k h n
stops ts a NoMemory h n = tt

-- Neither of the two goes on.
pub any_spec_refused : (ts : List Lexeme) (a : ℕ) (stop : ExprStop) → RefusedAt (E (s.Spec false)) ts a stop → BarredAt (E (s.Spec true)) ts a stop → RefusedAt (E s.AnySpec) ts a stop
any_spec_refused ts a stop h n = record { refused = stops ts a stop h.refused n.barred }
