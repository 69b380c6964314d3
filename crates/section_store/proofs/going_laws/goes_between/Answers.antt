use Rattle.section_store.proofs.Between.{held_between, stay_between, put_between, between_more}
use Rattle.section_store.proofs.going_laws.goes_between.Goals as goal

pub returns-clause-rest : goal.returns-clause-rest
returns-clause-rest c = held_between

pub returns-clause-nothing : goal.returns-clause-nothing
returns-clause-nothing c = stay_between

pub returns-clause-put : goal.returns-clause-put
returns-clause-put c = put_between

pub returns-clause-turn : goal.returns-clause-turn
returns-clause-turn c = between_more
