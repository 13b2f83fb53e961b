use Rattle.cl_parse.proofs.AttributeSteps.{is_vector, is_no_name, is_no_size, is_required, is_size_hint}
use Rattle.cl_parse.proofs.word.attribute_at.Goals as goal

pub returns-then-is_vector_hint : goal.returns-then-is_vector_hint
returns-then-is_vector_hint c = is_vector _ _ _ _ c.in_ok-text.ensures c.as_slice-name.ensures c.if-is_vector_hint.ensures

pub returns-then-not-is_at : goal.returns-then-not-is_at
returns-then-not-is_at c = is_no_name _ _ _ _ c.in_ok-text.ensures c.as_slice-name.ensures c.if-is_vector_hint.ensures c.if-not-is_at.ensures.stands

pub returns-then-not-is_size_name : goal.returns-then-not-is_size_name
returns-then-not-is_size_name c = is_no_size _ _ _ _ c.in_ok-text.ensures c.as_slice-name.ensures c.if-is_vector_hint.ensures c.if-not-is_size_name.ensures

pub returns-then-is_required_size : goal.returns-then-is_required_size
returns-then-is_required_size c = is_required _ _ _ _ c.in_ok-text.ensures c.as_slice-name.ensures c.if-is_vector_hint.ensures c.if-not-is_at.ensures.stands c.if-not-is_size_name.ensures c.if-is_required_size.ensures

pub returns : goal.returns
returns c = is_size_hint _ _ _ _ c.in_ok-text.ensures c.as_slice-name.ensures c.if-is_vector_hint.ensures c.if-not-is_at.ensures.stands c.if-not-is_size_name.ensures c.if-is_required_size.ensures
