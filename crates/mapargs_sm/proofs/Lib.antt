mod Operation
