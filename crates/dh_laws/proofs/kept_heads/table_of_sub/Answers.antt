use Rattle.dh_laws.proofs.Contracting.Substituted.{table_of_sub, place_of_sub, most_of_sub}
use Rattle.dh_laws.proofs.kept_heads.table_of_sub.Goals as goal

pub returns-clause-table_with_names : goal.returns-clause-table_with_names
returns-clause-table_with_names c = table_of_sub

pub returns-clause-table_without_names : goal.returns-clause-table_without_names
returns-clause-table_without_names c = table_of_sub

pub returns-clause-place_with_names : goal.returns-clause-place_with_names
returns-clause-place_with_names c = place_of_sub

pub returns-clause-place_without_names : goal.returns-clause-place_without_names
returns-clause-place_without_names c = place_of_sub

pub returns-clause-most_with_names : goal.returns-clause-most_with_names
returns-clause-most_with_names c = most_of_sub

pub returns-clause-most_without_names : goal.returns-clause-most_without_names
returns-clause-most_without_names c = most_of_sub
