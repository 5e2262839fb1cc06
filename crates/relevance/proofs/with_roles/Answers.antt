-- By the credential's kind nothing is asked, or also what it asks with a middle.
use Rattle.table.proofs.Reading.{is-number}
use Rattle.relevance.proofs.Reaching.{roles-linked, roles-none}
use Rattle.relevance.proofs.with_roles.Goals as goal

pub returns-then-is : goal.returns-then-is
returns-then-is c = roles-none _ _ _ _ c.credential-credential.ensures _ (is-number c.is.ensures c.if-is.true)

pub returns : goal.returns
returns c = roles-linked _ _ _ _ _ _ c.with_asked-more.ensures c.with_links.ensures
