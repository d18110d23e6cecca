-- `texts::put_number` calls itself on n / 10: the measure is n.
use Rattle.texts.proofs.+put_number.Given as goal

abbrev pub decreases-put_number : goal.decreases-put_number
decreases-put_number l = l.n
