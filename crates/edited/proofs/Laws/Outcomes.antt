-- The outcomes of the edits and of the rescues, by computation.
-- Assumes nothing.
use mathlib.Core.Path.{refl}
use Rattle.table.specs.Sums.{sum}
use Rattle.table.specs.Members.{has, each, last_of, place_in}
use Rattle.table.specs.Ranges.{some_below, lowest_from, highest}
use Rattle.plan.specs.Value.{with_all, outside, above}
use Rattle.plan.specs.Chain.{unlisted, link_of, fault_at, fault, goes_on, walk, chain_of, sums_from}
use Rattle.plan.specs.Reading.{no_length, leftover, read_plan, read_with_leftovers}
use Rattle.plan.specs.Writing.{records_from}
use Rattle.edit.specs.Laying.{laid, relinked, with_link, rewritten}
use Rattle.edit.specs.Dropping.{drop_refusal, dropped}
use Rattle.edit.specs.Adding.{free, domain_refusal, add_refusal, added}
use Rattle.edit.specs.Compaction.{moved_record, compacted}
use Rattle.edit.specs.Rescue.{remaining, rescued_record, rescue_answer, rescued}
use Rattle.edited.specs.Edits.{Edited}
use Rattle.edited.specs.Edits as edits
use Rattle.edited.specs.Rescues.{AllRescued}
use Rattle.edited.specs.Rescues as rescues

pub edited : Edited
unfolding sum has each last_of place_in some_below lowest_from highest with_all outside above unlisted link_of fault_at fault goes_on walk chain_of sums_from no_length leftover read_plan read_with_leftovers records_from laid relinked with_link rewritten drop_refusal dropped free domain_refusal add_refusal added moved_record compacted edits.outcome_of
edited = refl

pub all_rescued : AllRescued
unfolding sum has each last_of some_below lowest_from with_all outside above unlisted link_of fault_at fault goes_on walk chain_of sums_from no_length leftover read_plan records_from laid relinked with_link remaining rescued_record rescue_answer rescued rescues.outcome_of
all_rescued = refl
