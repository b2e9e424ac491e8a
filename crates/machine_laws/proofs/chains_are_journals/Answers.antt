use Rattle.machine_laws.proofs.Chains.{chain_cut, chain_joined, chain_holders, chain_isolation}
use Rattle.machine_laws.proofs.chains_are_journals.Goals as goal

pub returns-clause-cut : goal.returns-clause-cut
returns-clause-cut c = λ n epochs base state entries chain legal. chain_cut n epochs base state entries chain legal

pub returns-clause-whole : goal.returns-clause-whole
returns-clause-whole c = λ n epochs base state entries chain legal. chain_joined n epochs base state entries chain legal

pub returns-clause-holders_of : goal.returns-clause-holders_of
returns-clause-holders_of c = λ n epochs base state entries x chain legal. chain_holders n epochs base state entries x chain legal

pub returns-clause-isolation : goal.returns-clause-isolation
returns-clause-isolation c = λ n epochs base state entries x chain legal none. chain_isolation n epochs base state entries x chain legal none
