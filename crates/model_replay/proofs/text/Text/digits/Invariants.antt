-- `model_replay::text::Text::digits` ends: the power of ten falls.
use Rattle.model_replay.proofs.text.Text.digits.Given as goal

abbrev pub decreases-loop-power : goal.decreases-loop-power
decreases-loop-power l = l.power
