-- From where a link sends again.
use Rattle.laws_link.proofs.Vocabulary.{keeping_then, nothing_leads, depending_leads, bit_leads, leaves}

ruleset words = (leaves, keeping_then, nothing_leads, depending_leads, bit_leads)
