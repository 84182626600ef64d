-- `printing::Page::filled` comes to an end: each call of itself has one digit less to put.
use Rattle.printing.proofs.Page.+filled.Given as goal

abbrev pub decreases-filled : goal.decreases-filled
decreases-filled l = l.k
