-- What an edit's refusals tell (document 02, Point 4): the number, "No.", of each and its place.
-- Assumes nothing.
use Rattle.std.specs.Prelude.{ℕ, Result, Ok, Err}
use Rattle.plan.specs.Value.{number, refusal, Refusal}
use Rattle.edit.specs.declared.faults.EditFault.{EditFault}
use Rattle.edit.specs.declared.faults.EditFault.TheVariants.{File, Domain, NoRoom, NotOnChain}

abbrev pub edit_number : EditFault → ℕ
edit_number (File r) = number r.fault
edit_number (Domain f) = number f
edit_number NoRoom = 71
edit_number NotOnChain = 72

-- A refusal of reading has its place; "place 0 as for 71 and 72".
abbrev pub edit_place : EditFault → ℕ
edit_place (File r) = r.place
edit_place (Domain f) = 0
edit_place NoRoom = 0
edit_place NotOnChain = 0

-- What a call's answer says in these words.
abbrev pub edit_refusal_by : {T : Type 0} → Result T EditFault → Refusal
edit_refusal_by (Ok _) = refusal 0 0
edit_refusal_by (Err e) = refusal (edit_number e) (edit_place e)
