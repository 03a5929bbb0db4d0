-- A number is put as a tenth of it is, and one digit more.
use Rattle.program_answers.proofs.text.+put_digits.Given as goal

abbrev pub decreases-put_digits : goal.decreases-put_digits
decreases-put_digits l = l.n
