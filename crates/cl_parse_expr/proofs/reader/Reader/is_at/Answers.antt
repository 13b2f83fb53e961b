use Rattle.std.proofs.Common.{◌≡◌, true, false, ap, sym, subst, ◌∙◌}
use Rattle.cl_grammar.specs.Items.{IsAt}
use denote.Enum.Declared.{intoss}
use Rattle.cl_grammar.specs.contracts.terminal.Terminal.{the_type, as_values}
use Rattle.cl_parse_expr.proofs.SameTerminal.{same, differ, decided, none, flag, number, numbers, space, vector, operator, own_none, own_flags, own_numbers, own_two, own_space, own_vector, own_operator}
use Rattle.cl_parse_expr.proofs.reader.Reader.is_at.Goals as goal

same_terminals : (c : goal.After-eq) → true ≡ c.eq.result → c.peek.result ≡ c.args.terminal
same_terminals c h = the_type.to_one c.peek.result c.args.terminal (ap (intoss the_type.parts) (same the_type.parts _ (none, (none, (flag, (numbers, (none, (none, (none, (none, (none, (none, (none, (none, (space, (none, (none, (none, (none, (none, (none, (none, (none, (number, (vector, (flag, (none, (none, (none, (none, (none, (none, (none, (none, (none, (none, (none, (none, (none, (none, (none, (none, (none, (none, (none, (none, (none, (none, (none, (none, (none, (none, (none, (none, (none, (none, (none, (none, (none, (operator, (none, (operator, (none, (none, tt)))))))))))))))))))))))))))))))))))))))))))))))))))))))))))))) _ _ (sym (h ∙ c.eq.ensures))))

other_terminals : (c : goal.After-eq) → false ≡ c.eq.result → c.peek.result ≡ c.args.terminal → ⊥
other_terminals c h e = differ the_type.parts _ (own_none, (own_none, (own_flags, (own_two, (own_none, (own_none, (own_none, (own_none, (own_none, (own_none, (own_none, (own_none, (own_space, (own_none, (own_none, (own_none, (own_none, (own_none, (own_none, (own_none, (own_none, (own_numbers, (own_vector, (own_flags, (own_none, (own_none, (own_none, (own_none, (own_none, (own_none, (own_none, (own_none, (own_none, (own_none, (own_none, (own_none, (own_none, (own_none, (own_none, (own_none, (own_none, (own_none, (own_none, (own_none, (own_none, (own_none, (own_none, (own_none, (own_none, (own_none, (own_none, (own_none, (own_none, (own_none, (own_none, (own_none, (own_none, (own_operator, (own_none, (own_operator, (own_none, (own_none, tt)))))))))))))))))))))))))))))))))))))))))))))))))))))))))))))) _ _ (ap as_values e) (h ∙ c.eq.ensures)

pub returns-clause-stands : goal.returns-clause-stands
returns-clause-stands c = decided c.eq.result _ c.eq.ensures (λ h. subst (λ z. IsAt c.args.self.now c.args.at z) (same_terminals c (h ∙ sym c.eq.ensures)) c.peek.ensures.stands) (λ h. record { other = c.peek.result; stands = c.peek.ensures.stands; differs = other_terminals c (h ∙ sym c.eq.ensures) })
