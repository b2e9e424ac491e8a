mod CallLemmas
mod Heap
